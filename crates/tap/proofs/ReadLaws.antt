-- What the reading of a file says: where its items are, that it takes no more elements than it has room for, and its first element.
-- Assumes nothing.
use mathlib.Core.Path.{◌≡◌, refl, ◌∙◌}
use mathlib.Core.List.{List, [], ◌∷◌}
use Prim.Native.Nat.{ℕ, zero, suc, ◌+◌, ◌*◌, ◌-◌, ◌≤◌}
use native.Mathlib.Nat.{le_refl}
use native.Mathlib.Omega.{arith}
use borrow.Author.Tests.{eqb-true, ltb-false}
use lib.Dec.{eqb, ltb, leb}
use lib.ListN.{length}
use Rattle.std.specs.Prelude.{Ok, Err}
use Rattle.numbers.specs.Refusals.{number_of}
use Rattle.numbers.specs.Words.{word_at}
use Rattle.numbers.specs.declared.refusals.Refusal.{Refusal}
use Rattle.numbers.specs.declared.refusals.Refusal.TheVariants.{CutLengths, OtherLength, TooManyItems}
use Rattle.numbers.proofs.Cases.{either}
use Rattle.numbers.proofs.OverLaws.{part_length}
use Rattle.tap.specs.declared.items.Item.{Item}
use Rattle.tap.specs.declared.items.Item.TheVariants.{Ends, Mark, Record, Cut}
use Rattle.tap.specs.Items.{tape_mark, end_mark, length_in, padded, record_at, item_at}
use Rattle.tap.specs.Files.{Element, IsWhole, AllWhole, Reading, Refused, Holds, with_first, elements_in, met, reads}
use Rattle.tap.specs.Judging.{found_from}
use Rattle.tap.specs.declared.judging.Found.{Found}
use Rattle.tap.specs.Taking.{Taken, element_in, place_after}

-- ---- an item and its place

-- a record's bytes are within the file, and the place after an item is near
abbrev pub Sits : List ℕ → ℕ → Item → Type 0
Sits file at (Ends used) = used ≤ at + 4
Sits file at Cut = Unit {0}
Sits file at (Mark next) = (next ≡ at + 4) × (next ≤ length file)
Sits file at (Record r) = (r.from + r.length ≤ length file) × (r.next ≤ at + (r.length + 9))

record_sits : (file : List ℕ) (at w : ℕ) → Sits file at (record_at file at w)
unfolding record_at
record_sits file at w =
    let n = padded (length_in w) in
    either (Sits file at) (ltb (length file) (at + n + 8)) _ _ (λ e. tt)
    (λ e.
    let l = ltb-false (length file) (at + n + 8) e in
    either (Sits file at) (eqb (word_at file (at + n + 4)) w) _ _ (λ q. (omega arith, omega arith)) (λ q. tt))

pub item_sits : (file : List ℕ) (at : ℕ) → Sits file at (item_at file at)
unfolding item_at
item_sits file at =
    let w = word_at file at in
    either (Sits file at) (leb (length file) at) _ _ (λ e. omega arith)
    (λ e.
    either (Sits file at) (ltb (length file) (at + 4)) _ _ (λ e. tt)
    (λ e.
    either (Sits file at) (eqb w tape_mark) _ _ (λ q. (refl, ltb-false (length file) (at + 4) e))
    (λ e.
    either (Sits file at) (eqb w end_mark) _ _ (λ e. le_refl (at + 4)) (λ e. record_sits file at w))))

-- the bytes of an item that is taken are a block's
pub taken_whole : (size : ℕ) (file : List ℕ) (at : ℕ) (x : Item) → Taken size x → Sits file at x → IsWhole size (element_in file x)
taken_whole size file at (Ends used) t l = absurd t
taken_whole size file at Cut t l = absurd t
taken_whole size file at (Mark next) t l = tt
taken_whole size file at (Record r) t l = part_length file r.from r.length l.0 ∙ t

-- the place after it is near
taken_near : (size : ℕ) (file : List ℕ) (at : ℕ) (x : Item) → Taken size x → Sits file at x → place_after x ≤ at + (size + 9)
taken_near size file at (Ends used) t l = absurd t
taken_near size file at Cut t l = absurd t
taken_near size file at (Mark next) t l = omega (arith, l)
taken_near size file at (Record r) t l = omega (arith, l, t)

-- ---- every reading: what holds where it ends and where it refuses, and of one element more where it holds of the rest

-- how many bytes it tells
abbrev pub used_in : Reading → ℕ
used_in (Refused reason) = 0
used_in (Holds es used) = used

first_used : (e : Element) (x : Reading) → used_in (with_first e x) ≡ used_in x
first_used e (Refused reason) = refl
first_used e (Holds es used) = refl

first_length : (e : Element) (x : Reading) → length (elements_in (with_first e x)) ≤ length (elements_in x) + 1
first_length e (Refused reason) = omega arith
first_length e (Holds es used) = omega arith

first_of : (e : Element) (x : Reading) → 1 ≤ length (elements_in (with_first e x)) → elements_in (with_first e x) ≡ e ∷ elements_in x
first_of e (Refused reason) l = absurd (omega arith)
first_of e (Holds es used) l = refl

first_whole : (size : ℕ) (e : Element) (x : Reading) → IsWhole size e → AllWhole size (elements_in x) → AllWhole size (elements_in (with_first e x))
first_whole size e (Refused reason) w v = tt
first_whole size e (Holds es used) w v = (w, v)

-- a refusal is told as 11, 12 or 13
abbrev Told : Reading → Type 0
Told (Refused reason) = (11 ≤ number_of reason) × (number_of reason ≤ 13)
Told (Holds es used) = Unit {0}

first_told : (e : Element) (x : Reading) → Told x → Told (with_first e x)
first_told e (Refused reason) t = t
first_told e (Holds es used) t = tt

module _ (size : ℕ) (file : List ℕ) where
  met_by : (P : Reading → Type 0) (take : Element → ℕ → Reading) (at : ℕ) (x : Item) → Sits file at x
      → ((used : ℕ) → used ≤ at + 4 → P (Holds [] used)) → ((reason : Refusal) → 11 ≤ number_of reason → number_of reason ≤ 13 → P (Refused reason))
      → (Taken size x → P (take (element_in file x) (place_after x))) → P (met size file take x)
  unfolding met
  met_by P take at (Ends used) l ends refuses takes = ends used l
  met_by P take at Cut l ends refuses takes = refuses CutLengths (omega arith) (omega arith)
  met_by P take at (Mark next) l ends refuses takes = takes tt
  met_by P take at (Record r) l ends refuses takes =
      either P (eqb r.length size) _ _ (λ e. takes (eqb-true r.length size e)) (λ e. refuses OtherLength (omega arith) (omega arith))

  -- the reading after the item at place `at`
  abbrev after : ℕ → ℕ → Reading
  after room at = reads size file room (place_after (item_at file at))

  module _ (P : ℕ → ℕ → Reading → Type 0) (ends : (room at used : ℕ) → used ≤ at + 4 → P room at (Holds [] used))
      (refuses : (room at : ℕ) (reason : Refusal) → 11 ≤ number_of reason → number_of reason ≤ 13 → P room at (Refused reason))
      (takes : (room at : ℕ) → Taken size (item_at file at) → P room (place_after (item_at file at)) (after room at)
      → P (suc room) at (with_first (element_in file (item_at file at)) (after room at))) where
    reads-by : (room at : ℕ) → P room at (reads size file room at)
    unfolding reads
    reads-by zero at =
        met_by (P zero at) (λ e next. Refused TooManyItems) at (item_at file at) (item_sits file at) (ends zero at) (refuses zero at)
        (λ t. refuses zero at TooManyItems (omega arith) (omega arith))
    reads-by (suc room) at =
        met_by (P (suc room) at) (λ e next. with_first e (reads size file room next)) at (item_at file at) (item_sits file at) (ends (suc room) at)
        (refuses (suc room) at) (λ t. takes room at t (reads-by room (place_after (item_at file at))))

  -- no more elements than there is room for
  pub reads_most : (room at : ℕ) → length (elements_in (reads size file room at)) ≤ room
  reads_most =
      reads-by (λ room at R. length (elements_in R) ≤ room) (λ room at used l. omega arith) (λ room at reason a b. omega arith)
      (λ room at t h. omega (arith, h, first_length (element_in file (item_at file at)) (after room at)))

  pub reads_used : (room at : ℕ) → used_in (reads size file room at) ≤ at + (room * (size + 13) + 4)
  reads_used =
      reads-by (λ room at R. used_in R ≤ at + (room * (size + 13) + 4)) (λ room at used l. omega (arith, l)) (λ room at reason a b. omega arith)
      (λ room at t h.
      let n = taken_near size file at (item_at file at) t (item_sits file at) in
      omega (arith, h, n, first_used (element_in file (item_at file at)) (after room at)))

  -- every element that is found has a block's bytes
  pub reads_whole : (room at : ℕ) → AllWhole size (elements_in (reads size file room at))
  reads_whole =
      reads-by (λ room at R. AllWhole size (elements_in R)) (λ room at used l. tt) (λ room at reason a b. tt)
      (λ room at t h. first_whole size (element_in file (item_at file at)) (after room at)
      (taken_whole size file at (item_at file at) t (item_sits file at)) h)

  pub refused_number : (room at : ℕ) (reason : Refusal) → reads size file room at ≡ Refused reason → (11 ≤ number_of reason) × (number_of reason ≤ 13)
  refused_number room at reason e = rw e at (told room at)
    where
      told : (room at : ℕ) → Told (reads size file room at)
      told =
          reads-by (λ room at R. Told R) (λ room at used l. tt) (λ room at reason a b. (a, b))
          (λ room at t h. first_told (element_in file (item_at file at)) (after room at) h)

  -- the first element of a reading that has one: the item is taken, and the rest is the reading after it
  pub record First (room at : ℕ) (R : Reading) : Type 0 where
    pub taken : Taken size (item_at file at)
    pub rest : elements_in R ≡ element_in file (item_at file at) ∷ elements_in (after (room - 1) at)

  pub reads_first : (room at : ℕ) → 1 ≤ length (elements_in (reads size file room at)) → First room at (reads size file room at)
  reads_first =
      reads-by (λ room at R. 1 ≤ length (elements_in R) → First room at R) (λ room at used l n. absurd (omega arith))
      (λ room at reason a b n. absurd (omega arith))
      (λ room at t h n.
      let y : suc room - 1 ≡ room = omega arith in
      record { taken = t; rest = rw y (first_of (element_in file (item_at file at)) (after room at) n) })

-- ---- what the judging found

module _ (R : Reading) (found : Found) (is : Ok found ≡ found_from 0 R) where
  pub found_holds : R ≡ Holds (elements_in R) found.used
  found_holds = holds R is
    where
      holds : (R : Reading) → Ok found ≡ found_from 0 R → R ≡ Holds (elements_in R) found.used
      holds (Refused reason) e = absurd (cc)
      holds (Holds es used) e = cc

  pub found_length : found.elements ≡ length (elements_in R)
  found_length = counts R is
    where
      counts : (R : Reading) → Ok found ≡ found_from 0 R → found.elements ≡ length (elements_in R)
      counts (Refused reason) e = absurd (cc)
      counts (Holds es used) e = let z : found ≡ record { elements = 0 + length es; used = used } = cc in rw z (omega arith)

pub refuses_of : (R : Reading) (reason : Refusal) → Err reason ≡ found_from 0 R → R ≡ Refused reason
refuses_of (Refused reason') reason e = cc
refuses_of (Holds es used) reason e = absurd (cc)
