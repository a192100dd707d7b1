-- The header: the ways of `header_of`, what a good header keeps, and that the header goes by its bytes.
-- Assumes nothing.
use mathlib.Core.Path.{◌≡◌, refl, sym, ap, ◌∙◌}
use mathlib.Core.Bool.{Bool, true, false, cond, ◌&&◌, ◌||◌, and-false, false≢true}
use borrow.Author.Tests.{eqb-true}
use lib.Dec.{eqb}
use mathlib.Core.List.{List}
use Prim.Native.Nat.{ℕ, ◌+◌, ◌*◌, ◌%◌, ◌<◌, ◌≤◌}
use native.Mathlib.Omega.{arith}
use native.Mathlib.Nat.{mul-le-mul_right}
use lib.ListN.{length, get_or}
use Rattle.numbers.specs.Counts.{count_at}
use Rattle.numbers.specs.Member.{is_in}
use Rattle.numbers.specs.RuleList.{all_hold, Each}
use Rattle.numbers.proofs.Cases.{or_by}
use Rattle.numbers.proofs.RuleLaws.{split, each_of, pass}
use Rattle.numbers.proofs.CountLaws.{count_by_bytes}
use Rattle.image.specs.declared.elements.Kind.{Kind}
use Rattle.image.specs.declared.header.Header.{Header}
use Rattle.std.specs.Prelude.{Some, None}
use Rattle.image.specs.Elements.{kind_at, block_at, holds_data}
use Rattle.image.specs.Sameness.{IsBlock, IsBlockOf}
use Rattle.image.specs.Header.{block_sizes, fields_of, fixed_bytes, field_ranges, place_rules, keeps_header_rules, header_of}

-- ---- the ways of `header_of`

module _ (s : List ℕ) (h : Header) (a b c : Bool) where
  pub good : a ≡ all_hold (fixed_bytes s) → a ≡ true → h ≡ fields_of s → b ≡ all_hold (field_ranges h) → b ≡ true
      → c ≡ all_hold (place_rules h (length s)) → c ≡ true → Some h ≡ header_of s
  unfolding header_of keeps_header_rules
  good p p' q r r' t t' = cc

  pub bad_places : h ≡ fields_of s → c ≡ all_hold (place_rules h (length s)) → c ≡ false → None ≡ header_of s
  unfolding header_of keeps_header_rules
  bad_places q t t' = cc (and-false (all_hold (fixed_bytes s) && all_hold (field_ranges h)))

  pub bad_ranges : a ≡ all_hold (fixed_bytes s) → a ≡ true → h ≡ fields_of s → b ≡ all_hold (field_ranges h) → b ≡ false → None ≡ header_of s
  unfolding header_of keeps_header_rules
  bad_ranges p p' q r r' = cc

pub bad_fixed : (s : List ℕ) (a : Bool) → a ≡ all_hold (fixed_bytes s) → a ≡ false → None ≡ header_of s
unfolding header_of keeps_header_rules
bad_fixed s a p p' = cc

pub ruleset ways = (good, bad_places, bad_ranges, bad_fixed)

-- ---- what the tests on the way say to those after them

sized : (b : ℕ) → is_in b block_sizes ≡ true → (512 ≤ b) × (b ≤ 1024)
unfolding is_in
sized b e =
    or_by (eqb 512 b) (eqb 1024 b || false) e (λ p. let g = eqb-true 512 b p in omega arith)
    (λ q. or_by (eqb 1024 b) false q (λ p. let g = eqb-true 1024 b p in omega arith) (λ f. absurd (false≢true f)))

-- "block size B, 512 or 1024": neither is odd
even : (b : ℕ) → is_in b block_sizes ≡ true → b % 2 ≡ 0
unfolding is_in
even b e =
    or_by (eqb 512 b) (eqb 1024 b || false) e (λ p. let g = eqb-true 512 b p in rw (← g) refl)
    (λ q. or_by (eqb 1024 b) false q (λ p. let g = eqb-true 1024 b p in rw (← g) refl) (λ f. absurd (false≢true f)))

pub has_header : (s : List ℕ) (a : Bool) → a ≡ all_hold (fixed_bytes s) → a ≡ true → 32 ≤ length s
has_header s a p q = (each_of (fixed_bytes s) (sym p ∙ q)).0

pub ranges_bound : (h : Header) (b : Bool) → b ≡ all_hold (field_ranges h) → b ≡ true → (h.capacity ≤ 65535) × (h.size ≤ 1024)
ranges_bound h b p q =
    let g = each_of (field_ranges h) (sym p ∙ q) in
    let z = sized h.size g.1.1.1.1.1.0 in
    omega arith

-- ---- a good header

pub record Sound (h : Header) (n : ℕ) : Type 0 where
  pub size_least : 512 ≤ h.size
  pub size_most : h.size ≤ 1024
  pub size_even : h.size % 2 ≡ 0
  pub capacity_least : 1 ≤ h.capacity
  pub capacity_most : h.capacity ≤ 65535
  pub recorded_within : h.recorded ≤ h.capacity
  pub protect_most : h.protect ≤ 1
  pub warning_within : h.warning ≤ h.capacity
  pub kinds_after : 32 ≤ h.kinds
  pub blocks_after : h.kinds + h.capacity ≤ h.blocks
  pub all_within : h.blocks + h.capacity * h.size ≤ n
  pub recorded_blocks : h.blocks + h.recorded * h.size ≤ n

pub picked : (t : Bool) (f h : Header) → cond t (Some f) None ≡ Some h → (t ≡ true) × (f ≡ h)
picked true f h e = (refl, (cc))
picked false f h e = let z : ◌≡◌ {A = ℕ} 0 1 = cc in absurd (omega arith)

module _ (s : List ℕ) (h : Header) (good : header_of s ≡ Some h) where
  pub fields_are : fields_of s ≡ h
  unfolding header_of
  fields_are = (picked (keeps_header_rules s) (fields_of s) h good).1

  -- its image keeps the rules
  pub keeps_of : keeps_header_rules s ≡ true
  unfolding header_of
  keeps_of = (picked (keeps_header_rules s) (fields_of s) h good).0

  keeps_all : ((all_hold (fixed_bytes s) && all_hold (field_ranges (fields_of s))) ≡ true) × (all_hold (place_rules (fields_of s) (length s)) ≡ true)
  unfolding keeps_header_rules
  keeps_all = split (all_hold (fixed_bytes s) && all_hold (field_ranges (fields_of s))) (all_hold (place_rules (fields_of s) (length s))) keeps_of

  keeps_first : (all_hold (fixed_bytes s) ≡ true) × (all_hold (field_ranges (fields_of s)) ≡ true)
  keeps_first = split (all_hold (fixed_bytes s)) (all_hold (field_ranges (fields_of s))) keeps_all.0

  pub each_fixed : Each (fixed_bytes s)
  each_fixed = each_of (fixed_bytes s) keeps_first.0

  pub each_range : Each (field_ranges h)
  each_range = each_of (field_ranges h) (rw fields_are at keeps_first.1)

  pub each_place : Each (place_rules h (length s))
  each_place = each_of (place_rules h (length s)) (rw fields_are at keeps_all.1)

  pub sound : Sound h (length s)
  sound =
      let r = each_range in
      let p = each_place in
      let z = sized h.size r.1.1.1.1.1.0 in
      let m = mul-le-mul_right h.size r.1.1.0 in
      record {
        size_least = z.0;
        size_most = z.1;
        size_even = even h.size r.1.1.1.1.1.0;
        capacity_least = r.0;
        capacity_most = r.1.0;
        recorded_within = r.1.1.0;
        protect_most = r.1.1.1.0;
        warning_within = r.1.1.1.1.0;
        kinds_after = p.0;
        blocks_after = p.1.0;
        all_within = p.1.1.0;
        recorded_blocks = omega arith;
      }

pub broken_by : (t : Bool) (f : Header) → cond t (Some f) None ≡ None → t ≡ false
broken_by true f e = let z : ◌≡◌ {A = ℕ} 0 1 = cc in absurd (omega arith)
broken_by false f e = refl

pub broken_of : (s : List ℕ) → header_of s ≡ None → keeps_header_rules s ≡ false
unfolding header_of
broken_of s e = broken_by (keeps_header_rules s) (fields_of s) e

pub broken_header : (s : List ℕ) → keeps_header_rules s ≡ false → header_of s ≡ None
unfolding header_of
broken_header s e = rw e

pub good_header : (s : List ℕ) → keeps_header_rules s ≡ true → header_of s ≡ Some (fields_of s)
unfolding header_of
good_header s e = rw e

-- a block of an image whose header is known
pub is_block : (end : ℕ) (s : List ℕ) (h : Header) (i : ℕ) (bytes : List ℕ) → header_of s ≡ Some h → i < end → holds_data (kind_at s h.kinds i) ≡ true
    → block_at s h.size h.blocks i ≡ bytes → IsBlock end s i bytes
is_block end s h i bytes g l k b =
    let f = fields_are s h g in
    record { good = keeps_of s h g; before = l; holds = rw f k; same = rw f b }

-- of a kind that holds data
pub is_block_of : (kind : Kind) → holds_data kind ≡ true → (end : ℕ) (s : List ℕ) (h : Header) (i : ℕ) (bytes : List ℕ) → header_of s ≡ Some h → i < end
    → kind_at s h.kinds i ≡ kind → block_at s h.size h.blocks i ≡ bytes → IsBlockOf kind end s i bytes
is_block_of kind d end s h i bytes g l k b = (is_block end s h i bytes g l (ap holds_data k ∙ d) b, rw (fields_are s h g) k)

-- a block of s is one of t, whose header is known, where the element is the same
pub block_kept : (kind : Kind) (end end' : ℕ) (s t : List ℕ) (h : Header) (i : ℕ) (bytes : List ℕ) → IsBlockOf kind end s i bytes → header_of t ≡ Some h
    → i < end' → kind_at t h.kinds i ≡ kind_at s (fields_of s).kinds i
    → block_at t h.size h.blocks i ≡ block_at s (fields_of s).size (fields_of s).blocks i → IsBlockOf kind end' t i bytes
block_kept kind end end' s t h i bytes block g l k b =
    is_block_of kind (ap holds_data (sym block.1) ∙ block.0.holds) end' t h i bytes g l (k ∙ block.1) (b ∙ block.0.same)

pub good_by : (s : List ℕ) (h : Header) → fields_of s ≡ h → Each (fixed_bytes s) → Each (field_ranges h) → Each (place_rules h (length s))
    → header_of s ≡ Some h
unfolding header_of keeps_header_rules
good_by s h e f r p = rw (e, pass (fixed_bytes s) f, pass (field_ranges h) r, pass (place_rules h (length s)) p)

-- a header goes by its 32 bytes and the length of the image
module _ (s t : List ℕ) (l : length t ≡ length s) (same : (i : ℕ) → i < 32 → get_or t i 0 ≡ get_or s i 0) where
  number_same : (p k : ℕ) → p + k ≤ 32 → count_at t p k ≡ count_at s p k
  number_same p k h = count_by_bytes t s p k (λ i a b. same i (omega arith))

  fields_same : fields_of t ≡ fields_of s
  unfolding fields_of
  fields_same =
      let e1 = number_same 2 2 (omega arith) in
      let e2 = number_same 4 4 (omega arith) in
      let e3 = number_same 8 4 (omega arith) in
      let e4 = number_same 12 4 (omega arith) in
      let e5 = number_same 16 4 (omega arith) in
      let e6 = number_same 20 1 (omega arith) in
      let e7 = number_same 21 1 (omega arith) in
      let e8 = number_same 22 2 (omega arith) in
      cc

  pub header_same : (h : Header) → header_of s ≡ Some h → header_of t ≡ Some h
  header_same h good =
      let f = each_fixed s h good in
      let e1 = number_same 0 2 (omega arith) in
      let e2 = number_same 24 4 (omega arith) in
      let e3 = number_same 28 4 (omega arith) in
      good_by t h (fields_same ∙ fields_are s h good) (omega arith) (each_range s h good) (rw l (each_place s h good))
