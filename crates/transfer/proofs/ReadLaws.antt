-- READ, one element at a time: what is left to do gives what the whole gives.
-- Assumes nothing.
use Rattle.std.specs.Prelude.{if◌then◌else◌}
use mathlib.Core.Path.{◌≡◌, refl, sym, ap, ◌∙◌}
use mathlib.Core.Bool.{Bool, true, false}
use mathlib.Core.List.{List, append-nil}
use Prim.Native.Nat.{ℕ, zero, suc, ◌+◌, ◌*◌, ◌-◌, ◌<◌, ◌≤◌}
use native.Mathlib.Nat.{le_refl, not-suc-le-zero, mul-le-mul_right}
use native.Mathlib.Numerals.{sub-one}
use native.Mathlib.Omega.{arith}
use borrow.Author.Tests.{le-leb, lt-leb, leb-true, leb-false}
use lib.Dec.{leb}
use borrow.Rule.Slice.PartMut.{mid_of, put_mid}
use lib.ListN.{length, get_or, length-take, length-drop, drop_of_length-le, drop}
use Rattle.numbers.specs.Over.{over, part}
use Rattle.numbers.proofs.OverLaws.{part_length, part_same, over_length, over_below, over_above, over_part, lent_rest, copied_over}
use Rattle.image.specs.declared.elements.Kind.{Kind}
use Rattle.image.specs.Elements.{holds_data, kind_at, block_at}
use Rattle.transfer.specs.declared.Moved.{Moved}
use Rattle.transfer.specs.declared.Stop.TheVariants.{Full, AtEnd}
use Rattle.transfer.specs.Moving.{halts}
use Rattle.transfer.specs.Reading.{Reading, reads, stop_at, read_from}
use Rattle.transfer.proofs.EndLaws.{none_left, some_left, Ended, ended_full, ended_short, ended_on, stop_short, end_short}

-- ---- the loop's steps: of n asked for, `done` are done

module _ (s : List ℕ) (size kinds blocks end n done off p : ℕ) (buf : List ℕ) where
  pub read_full : done ≡ n → read_from s size kinds blocks end (n - done) off (p + done) buf ≡ reads buf (halts (p + done) 0 Full)
  unfolding read_from
  read_full e = rw (none_left n done e) refl

  pub read_at_end : done < n → end ≤ p + done
      → read_from s size kinds blocks end (n - done) off (p + done) buf ≡ reads buf (halts (p + done) (n - done) AtEnd)
  unfolding read_from
  read_at_end l e = rw (some_left n done l, le-leb end (p + done) e) refl

  pub read_stops : done < n → p + done < end → holds_data (kind_at s kinds (p + done)) ≡ false
      → read_from s size kinds blocks end (n - done) off (p + done) buf
      ≡ reads buf (halts (p + done + 1) (n - done) (stop_at (kind_at s kinds (p + done))))
  unfolding read_from
  read_stops l e t = rw (some_left n done l, lt-leb end (p + done) e, t) refl

  pub read_copies : done < n → p + done < end → holds_data (kind_at s kinds (p + done)) ≡ true
      → read_from s size kinds blocks end (n - done) off (p + done) buf
      ≡ read_from s size kinds blocks end (n - (done + 1)) (off + size) (p + (done + 1)) (over buf off (block_at s size blocks (p + done)))
  unfolding read_from
  read_copies l e t =
      let y : p + done + 1 ≡ p + (done + 1) = omega arith in
      rw (some_left n done l, lt-leb end (p + done) e, t, y) refl

-- a block was copied from the image's bytes at a to the rest of the buffer, which came back as ys: the step in the words of what is lent
module _ (s : List ℕ) (size kinds blocks end off p : ℕ) (buf : List ℕ) (X : Reading) where
  pub read_next : (left a : ℕ) (kind : Kind) (b : Bool) (ys : List ℕ) → read_from s size kinds blocks end left off p buf ≡ X → 0 < left → p < end
      → kind ≡ kind_at s kinds p → b ≡ holds_data kind → b ≡ true → a ≡ blocks + p * size
      → ys ≡ over (mid_of off (length buf - off) buf) 0 (mid_of a (a + size - a) s)
      → read_from s size kinds blocks end (left - 1) (off + size) (p + 1) (put_mid off (length buf - off) buf ys) ≡ X
  unfolding read_from block_at
  read_next zero a kind b ys i h l e k t q r = absurd (not-suc-le-zero h)
  read_next (suc left) a kind b ys i h l e k t q r =
      rw (copied_over off a size buf s ys r, q, sub-one) (rw (lt-leb end p l, ← e, ← k, t) at i)

-- what is lent to the copier of one block, and what comes back

pub rest_length : (off : ℕ) (buf : List ℕ) → length (mid_of off (length buf - off) buf) ≡ length buf - off
rest_length off buf = rw (lent_rest, length-drop) refl

pub copied_back : (off : ℕ) (buf bytes : List ℕ) → put_mid off (length buf - off) buf (over (mid_of off (length buf - off) buf) 0 bytes) ≡ over buf off bytes
copied_back off buf bytes =
    rw (lent_rest, drop_of_length-le (drop off buf) {i = length buf - off} (rw length-drop (le_refl _)), append-nil) refl

pub block_length : (s : List ℕ) (size blocks i : ℕ) → length (block_at s size blocks i) ≤ size
unfolding block_at
block_length s size blocks i = rw length-take (omega arith)

pub ruleset read_ways = (read_full, read_at_end, read_stops, read_copies, rest_length, copied_back, block_length)

-- ---- the whole run

module _ (s : List ℕ) (size kinds blocks end : ℕ) where
  -- how READ of n blocks goes, step by step, to its outcome
  pub data ReadRun : ℕ → ℕ → ℕ → List ℕ → Reading → Type 0 where
    full : (off p : ℕ) (buf : List ℕ) → ReadRun 0 off p buf (reads buf (halts p 0 Full))
    at-end : (n off p : ℕ) (buf : List ℕ) → end ≤ p → ReadRun (suc n) off p buf (reads buf (halts p (suc n) AtEnd))
    stops : (n off p : ℕ) (buf : List ℕ) → p < end → holds_data (kind_at s kinds p) ≡ false
        → ReadRun (suc n) off p buf (reads buf (halts (p + 1) (suc n) (stop_at (kind_at s kinds p))))
    copies : (n off p : ℕ) (buf : List ℕ) (X : Reading) → p < end → holds_data (kind_at s kinds p) ≡ true
        → ReadRun n (off + size) (p + 1) (over buf off (block_at s size blocks p)) X → ReadRun (suc n) off p buf X

  one_read : (t d : Bool) (n off p : ℕ) (buf : List ℕ) (X : Reading) → leb end p ≡ t → holds_data (kind_at s kinds p) ≡ d
      → ReadRun n (off + size) (p + 1) (over buf off (block_at s size blocks p)) X
      → ReadRun (suc n) off p buf
      (if t then reads buf (halts p (suc n) AtEnd) else if d then X else reads buf (halts (p + 1) (suc n) (stop_at (kind_at s kinds p))))
  one_read true d n off p buf X h e r = at-end n off p buf (leb-true end p h)
  one_read false true n off p buf X h e r = copies n off p buf X (leb-false end p h) e r
  one_read false false n off p buf X h e r = stops n off p buf (leb-false end p h) e

  pub read_run : (n off p : ℕ) (buf : List ℕ) → ReadRun n off p buf (read_from s size kinds blocks end n off p buf)
  unfolding read_from
  read_run zero off p buf = full off p buf
  read_run (suc n) off p buf =
      one_read (leb end p) (holds_data (kind_at s kinds p)) n off p buf _ refl refl (read_run n (off + size) (p + 1) (over buf off (block_at s size blocks p)))

  run_ended : {n off p : ℕ} {buf : List ℕ} {X : Reading} → ReadRun n off p buf X → Ended n X.moved
  run_ended (full off p buf) = ended_full p
  run_ended (at-end n off p buf h) = ended_short (suc n) p AtEnd (omega arith) end_short
  run_ended (stops n off p buf h e) = ended_short (suc n) (p + 1) _ (omega arith) (stop_short (kind_at s kinds p))
  run_ended (copies n off p buf X h e r) = ended_on n (suc n) X.moved (omega arith) (run_ended r)

  run_place : {n off p : ℕ} {buf : List ℕ} {X : Reading} → ReadRun n off p buf X → p ≤ end → X.moved.place ≤ end
  run_place (full off p buf) l = l
  run_place (at-end n off p buf h) l = l
  run_place (stops n off p buf h e) l = omega arith
  run_place (copies n off p buf X h e r) l = run_place r (omega arith)

  -- the buffer keeps its length, and its bytes before off
  record Kept (off : ℕ) (buf new : List ℕ) : Type 0 where
    size-kept : length new ≡ length buf
    before-kept : (i : ℕ) → i < off → get_or new i 0 ≡ get_or buf i 0

  run_kept : {n off p : ℕ} {buf : List ℕ} {X : Reading} → ReadRun n off p buf X → off + n * size ≤ length buf → Kept off buf X.buf
  run_kept (full off p buf) l = record { size-kept = refl; before-kept = λ i h. refl }
  run_kept (at-end n off p buf h) l = record { size-kept = refl; before-kept = λ i h. refl }
  run_kept (stops n off p buf h e) l = record { size-kept = refl; before-kept = λ i h. refl }
  run_kept (copies n off p buf X h e r) l =
      let m = block_length s size blocks p in
      let o = over_length buf (block_at s size blocks p) off (omega arith) in
      let k = run_kept r (omega arith) in
      record {
        size-kept = k.size-kept ∙ o;
        before-kept = λ i h. k.before-kept i (omega arith) ∙ over_below buf (block_at s size blocks p) off i (omega arith) h;
      }

  -- the j-th of the blocks that were moved
  run_block : {n off p : ℕ} {buf : List ℕ} {X : Reading} → ReadRun n off p buf X → off + n * size ≤ length buf → blocks + end * size ≤ length s
      → (j : ℕ) → j + X.moved.left < n → part X.buf (off + j * size) size ≡ block_at s size blocks (p + j)
  unfolding block_at
  run_block (full off p buf) l b j h = absurd (omega arith)
  run_block (at-end n off p buf g) l b j h = absurd (omega arith)
  run_block (stops n off p buf g e) l b j h = absurd (omega arith)
  run_block (copies n off p buf X g e r) l b zero h =
      let m = mul-le-mul_right size g in
      let w = part_length s (blocks + p * size) size (omega arith) in
      let o = over_length buf (part s (blocks + p * size) size) off (omega arith) in
      let k = run_kept r (omega arith) in
      let q = k.size-kept in
      let x : off + 0 * size ≡ off = omega arith in
      let y : p + 0 ≡ p = omega arith in
      rw (x, y)
      (part_same X.buf (over buf off (part s (blocks + p * size) size)) off size (omega arith) q (λ i z. k.before-kept (off + i) (omega arith))
      ∙ ap (λ (i : ℕ). part (over buf off (part s (blocks + p * size) size)) off i) (sym w)
      ∙ over_part buf (part s (blocks + p * size) size) off (omega arith))
  run_block (copies n off p buf X g e r) l b (suc j) h =
      let m = mul-le-mul_right size g in
      let w = block_length s size blocks p in
      let o = over_length buf (block_at s size blocks p) off (omega arith) in
      let x : off + suc j * size ≡ off + size + j * size = omega arith in
      let y : p + suc j ≡ p + 1 + j = omega arith in
      rw (x, y) (run_block r (omega arith) b j (omega arith))

  -- the buffer beyond the k blocks that were copied
  pub record Copied (n off : ℕ) (buf : List ℕ) (X : Reading) : Type 0 where
    pub less : X.moved.left ≤ n
    pub beyond : (k : ℕ) → k + X.moved.left ≡ n → (i : ℕ) → off + k * size ≤ i → get_or X.buf i 0 ≡ get_or buf i 0

  copied_none : (n off : ℕ) (buf : List ℕ) (m : Moved) → m.left ≡ n → Copied n off buf (reads buf m)
  copied_none n off buf m e = record { less = omega arith; beyond = λ k e i h. refl }

  copied_on : (n off p : ℕ) (buf : List ℕ) (X : Reading) → off + suc n * size ≤ length buf
      → Copied n (off + size) (over buf off (block_at s size blocks p)) X → Copied (suc n) off buf X
  copied_on n off p buf X l r = record { less = omega (arith, r.less); beyond = further }
    where
      further : (k : ℕ) → k + X.moved.left ≡ suc n → (i : ℕ) → off + k * size ≤ i → get_or X.buf i 0 ≡ get_or buf i 0
      further zero e i h = absurd (omega (arith, r.less))
      further (suc k) e i h =
          let m = block_length s size blocks p in
          r.beyond k (omega arith) i (omega arith) ∙ over_above buf (block_at s size blocks p) off i (omega arith) (omega arith)

  pub copied : {n off p : ℕ} {buf : List ℕ} {X : Reading} → ReadRun n off p buf X → off + n * size ≤ length buf → Copied n off buf X
  copied (full off p buf) l = copied_none 0 off buf _ refl
  copied (at-end n off p buf h) l = copied_none (suc n) off buf _ refl
  copied (stops n off p buf h e) l = copied_none (suc n) off buf _ refl
  copied (copies n off p buf X h e r) l =
      let m = block_length s size blocks p in
      let o = over_length buf (block_at s size blocks p) off (omega arith) in
      copied_on n off p buf X l (copied r (omega arith))

  -- each block that READ moved holds data and stands before the end
  pub data_moved : {n off p : ℕ} {buf : List ℕ} {X : Reading} → ReadRun n off p buf X → (j : ℕ) → j + X.moved.left < n
      → (p + j < end) × (holds_data (kind_at s kinds (p + j)) ≡ true)
  data_moved (full off p buf) j l = absurd (omega arith)
  data_moved (at-end n off p buf h) j l = absurd (omega arith)
  data_moved (stops n off p buf h e) j l = absurd (omega arith)
  data_moved (copies n off p buf X h e r) zero l = let y : p + 0 ≡ p = omega arith in rw y (h, e)
  data_moved (copies n off p buf X h e r) (suc j) l = let y : p + suc j ≡ p + 1 + j = omega arith in rw y (data_moved r j (omega arith))

  -- so none of them beyond the end
  pub few_moved : {n off p : ℕ} {buf : List ℕ} {X : Reading} → ReadRun n off p buf X → p ≤ end → p + (n - X.moved.left) ≤ end
  few_moved {n = n} {p = p} {X = X} r l = by (n - X.moved.left) refl
    where
      by : (k : ℕ) → n - X.moved.left ≡ k → p + k ≤ end
      by zero e = omega arith
      by (suc j) e = omega (arith, (data_moved r j (omega arith)).0)

  module _ (n off p : ℕ) (buf : List ℕ) where
    pub read-ended : Ended n (read_from s size kinds blocks end n off p buf).moved
    read-ended = run_ended (read_run n off p buf)

    pub read_left : (read_from s size kinds blocks end n off p buf).moved.left ≤ n
    read_left = read-ended.less

    pub read-few : p ≤ end → p + (n - (read_from s size kinds blocks end n off p buf).moved.left) ≤ end
    read-few = few_moved (read_run n off p buf)

    pub read-place : p ≤ end → (read_from s size kinds blocks end n off p buf).moved.place ≤ end
    read-place = run_place (read_run n off p buf)

    pub read_length : off + n * size ≤ length buf → length (read_from s size kinds blocks end n off p buf).buf ≡ length buf
    read_length l = (run_kept (read_run n off p buf) l).size-kept

    -- each block moved has come whole
    pub read-block : off + n * size ≤ length buf → blocks + end * size ≤ length s
        → (j : ℕ) → j + (read_from s size kinds blocks end n off p buf).moved.left < n
        → part (read_from s size kinds blocks end n off p buf).buf (off + j * size) size ≡ block_at s size blocks (p + j)
    read-block = run_block (read_run n off p buf)

  -- the same of what came of it
  module _ (n off p : ℕ) (buf new : List ℕ) (m : Moved) (run : reads new m ≡ read_from s size kinds blocks end n off p buf) where
    pub came-less : m.left ≤ n
    came-less = rw (ap (λ (r : Reading). r.moved.left) run) (read_left n off p buf)

    pub came-few : p ≤ end → p + (n - m.left) ≤ end
    came-few l = rw (ap (λ (r : Reading). r.moved.left) run) (read-few n off p buf l)

  -- READ that starts at a block that holds data moves it
  pub read_first : (n off p : ℕ) (buf : List ℕ) → p < end → holds_data (kind_at s kinds p) ≡ true
      → (read_from s size kinds blocks end (suc n) off p buf).moved.left ≤ n
  unfolding read_from
  read_first n off p buf l k = rw (lt-leb end p l, k) (read_left n (off + size) (p + 1) (over buf off (block_at s size blocks p)))
