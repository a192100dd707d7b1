-- SPACE, one element at a time: what is left to do gives what the whole gives.
-- Assumes nothing.
use Rattle.std.specs.Prelude.{if◌then◌else◌}
use mathlib.Core.Path.{◌≡◌, refl}
use mathlib.Core.Bool.{Bool, true, false}
use mathlib.Core.List.{List}
use Prim.Native.Nat.{ℕ, zero, suc, ◌+◌, ◌-◌, ◌<◌, ◌≤◌}
use native.Mathlib.Nat.{le_refl, le_step}
use native.Mathlib.Omega.{arith}
use borrow.Author.Tests.{le-leb, lt-leb, ne_eqb, leb-true, leb-false}
use lib.Dec.{leb, eqb}
use Rattle.image.specs.declared.elements.Kind.{Kind}
use Rattle.image.specs.declared.elements.Kind.TheVariants.{Data, Filemark, Unreadable, Marked}
use Rattle.image.specs.Elements.{is_filemark, kind_at}
use Rattle.transfer.specs.declared.Moved.{Moved}
use Rattle.transfer.specs.declared.Stop.TheVariants.{Full, AtFilemark, AtEnd, AtBeginning}
use Rattle.transfer.specs.Moving.{halts}
use Rattle.transfer.specs.Spacing.{marks_left, blocks_on, blocks_back, marks_on, marks_back}
use Rattle.transfer.proofs.EndLaws.{none_left, some_left, Ended, ended_full, ended_short, ended_on, filemark_short, end_short, beginning_short}

-- ---- the loops' steps: of n asked for, `done` are done

module _ (s : List ℕ) (kinds end n done p : ℕ) where
  pub on_full : done ≡ n → blocks_on s kinds end (n - done) (p + done) ≡ halts (p + done) 0 Full
  unfolding blocks_on
  on_full e = rw (none_left n done e) refl

  pub on_at_end : done < n → end ≤ p + done → blocks_on s kinds end (n - done) (p + done) ≡ halts (p + done) (n - done) AtEnd
  unfolding blocks_on
  on_at_end l e = rw (some_left n done l, le-leb end (p + done) e) refl

  pub on_at_mark : done < n → p + done < end → is_filemark (kind_at s kinds (p + done)) ≡ true
      → blocks_on s kinds end (n - done) (p + done) ≡ halts (p + done + 1) (n - done) AtFilemark
  unfolding blocks_on
  on_at_mark l e t = rw (some_left n done l, lt-leb end (p + done) e, t) refl

  pub on_passes : done < n → p + done < end → is_filemark (kind_at s kinds (p + done)) ≡ false
      → blocks_on s kinds end (n - done) (p + done) ≡ blocks_on s kinds end (n - (done + 1)) (p + (done + 1))
  unfolding blocks_on
  on_passes l e t =
      let y : p + done + 1 ≡ p + (done + 1) = omega arith in
      rw (some_left n done l, lt-leb end (p + done) e, t, y) refl

pub ruleset on_ways = (on_full, on_at_end, on_at_mark, on_passes)

module _ (s : List ℕ) (kinds n done p : ℕ) where
  pub back_full : done ≡ n → blocks_back s kinds (p - done) (n - done) ≡ halts (p - done) 0 Full
  unfolding blocks_back
  back_full e = rw (none_left n done e) refl

  pub back_at_start : done < n → p - done ≡ 0 → blocks_back s kinds (p - done) (n - done) ≡ halts 0 (n - done) AtBeginning
  unfolding blocks_back
  back_at_start l e = rw (some_left n done l, e) refl

  module _ (l : done < n) (m : done < p) where
    back : p - done - 1 ≡ p - (done + 1)
    back = omega arith

    pub back_at_mark : is_filemark (kind_at s kinds (p - done - 1)) ≡ true
        → blocks_back s kinds (p - done) (n - done) ≡ halts (p - done - 1) (n - done) AtFilemark
    unfolding blocks_back
    back_at_mark t = rw (back, some_left n done l, some_left p done m, (rw back at t)) refl

    pub back_passes : is_filemark (kind_at s kinds (p - done - 1)) ≡ false
        → blocks_back s kinds (p - done) (n - done) ≡ blocks_back s kinds (p - (done + 1)) (n - (done + 1))
    unfolding blocks_back
    back_passes t = rw (some_left n done l, some_left p done m, (rw back at t)) refl

pub ruleset back_ways = (back_full, back_at_start, back_at_mark, back_passes)

-- ---- the same over filemarks, of which `left` are left at a place

module _ (s : List ℕ) (kinds left at : ℕ) where
  pub marks_on_full : (ahead : ℕ) → left ≡ 0 → marks_on s kinds ahead left at ≡ halts at 0 Full
  unfolding marks_on
  marks_on_full zero e = rw e refl
  marks_on_full (suc ahead) e = rw e refl

  pub marks_on_at_end : (end : ℕ) → (left ≡ 0 → ⊥) → at ≡ end → marks_on s kinds (end - at) left at ≡ halts at left AtEnd
  unfolding marks_on
  marks_on_at_end end f e = rw (none_left end at e, ne_eqb left 0 f) refl

  pub marks_on_passes : (end : ℕ) → (left ≡ 0 → ⊥) → at < end
      → marks_on s kinds (end - at) left at ≡ marks_on s kinds (end - (at + 1)) (marks_left (kind_at s kinds at) left) (at + 1)
  unfolding marks_on
  marks_on_passes end f l = rw (some_left end at l, ne_eqb left 0 f) refl

-- the same of the places p, p + 1, .., of which `done` are done
module _ (s : List ℕ) (kinds left p done : ℕ) where
  pub marks_on_next : (end : ℕ) → (left ≡ 0 → ⊥) → p + done < end
      → marks_on s kinds (end - (p + done)) left (p + done)
      ≡ marks_on s kinds (end - (p + (done + 1))) (marks_left (kind_at s kinds (p + done)) left) (p + (done + 1))
  unfolding marks_on
  marks_on_next end f l =
      let y : p + done + 1 ≡ p + (done + 1) = omega arith in
      rw (some_left end (p + done) l, ne_eqb left 0 f, y) refl

pub ruleset marks_on_ways = (marks_on_full, marks_on_at_end, marks_on_passes, marks_on_next)

module _ (s : List ℕ) (kinds left : ℕ) where
  pub marks_back_full : (at : ℕ) → left ≡ 0 → marks_back s kinds at left ≡ halts at 0 Full
  unfolding marks_back
  marks_back_full zero e = rw e refl
  marks_back_full (suc at) e = rw e refl

  pub marks_back_at_start : (at : ℕ) → (left ≡ 0 → ⊥) → at ≡ 0 → marks_back s kinds at left ≡ halts 0 left AtBeginning
  unfolding marks_back
  marks_back_at_start at f e = rw (e, ne_eqb left 0 f) refl

  pub marks_back_passes : (at : ℕ) → (left ≡ 0 → ⊥) → marks_back s kinds (at + 1) left ≡ marks_back s kinds at (marks_left (kind_at s kinds at) left)
  unfolding marks_back
  marks_back_passes at f = let z : at + 1 ≡ suc at = omega arith in rw (z, ne_eqb left 0 f) refl

pub ruleset marks_back_ways = (marks_back_full, marks_back_at_start, marks_back_passes)

-- ---- the whole run

some : (n : ℕ) → eqb (suc n) 0 ≡ false
some n = ne_eqb (suc n) 0 (λ x. omega arith)

marks_less : (kind : Kind) (n : ℕ) → marks_left kind n ≤ n
marks_less Data n = le_refl n
marks_less Filemark n = omega arith
marks_less Unreadable n = le_refl n
marks_less Marked n = le_refl n

module _ (s : List ℕ) (kinds : ℕ) where
  -- how SPACE over n blocks goes on, step by step, to its outcome
  pub data OnRun (end : ℕ) : ℕ → ℕ → Moved → Type 0 where
    full : (p : ℕ) → OnRun end 0 p (halts p 0 Full)
    at-end : (n p : ℕ) → end ≤ p → OnRun end (suc n) p (halts p (suc n) AtEnd)
    at_mark : (n p : ℕ) → p < end → is_filemark (kind_at s kinds p) ≡ true → OnRun end (suc n) p (halts (p + 1) (suc n) AtFilemark)
    passes : (n p : ℕ) (m : Moved) → p < end → is_filemark (kind_at s kinds p) ≡ false → OnRun end n (p + 1) m → OnRun end (suc n) p m

  one_on : (t f : Bool) (end n p : ℕ) (m : Moved) → leb end p ≡ t → is_filemark (kind_at s kinds p) ≡ f → OnRun end n (p + 1) m
      → OnRun end (suc n) p (if t then halts p (suc n) AtEnd else if f then halts (p + 1) (suc n) AtFilemark else m)
  one_on true f end n p m h e r = at-end n p (leb-true end p h)
  one_on false true end n p m h e r = at_mark n p (leb-false end p h) e
  one_on false false end n p m h e r = passes n p m (leb-false end p h) e r

  pub on_run : (end n p : ℕ) → OnRun end n p (blocks_on s kinds end n p)
  unfolding blocks_on
  on_run end zero p = full p
  on_run end (suc n) p = one_on (leb end p) (is_filemark (kind_at s kinds p)) end n p _ refl refl (on_run end n (p + 1))

  on_ends : {end n p : ℕ} {m : Moved} → OnRun end n p m → Ended n m
  on_ends (full p) = ended_full p
  on_ends (at-end n p h) = ended_short (suc n) p AtEnd (omega arith) end_short
  on_ends (at_mark n p h e) = ended_short (suc n) (p + 1) AtFilemark (omega arith) filemark_short
  on_ends (passes n p m h e r) = ended_on n (suc n) m (omega arith) (on_ends r)

  on_place : {end n p : ℕ} {m : Moved} → OnRun end n p m → p ≤ end → m.place ≤ end
  on_place (full p) l = l
  on_place (at-end n p h) l = l
  on_place (at_mark n p h e) l = omega arith
  on_place (passes n p m h e r) l = on_place r (omega arith)

  -- back
  pub data BackRun : ℕ → ℕ → Moved → Type 0 where
    full : (p : ℕ) → BackRun p 0 (halts p 0 Full)
    at-start : (n : ℕ) → BackRun 0 (suc n) (halts 0 (suc n) AtBeginning)
    at_mark : (p n : ℕ) → is_filemark (kind_at s kinds p) ≡ true → BackRun (suc p) (suc n) (halts p (suc n) AtFilemark)
    passes : (p n : ℕ) (m : Moved) → is_filemark (kind_at s kinds p) ≡ false → BackRun p n m → BackRun (suc p) (suc n) m

  one_back : (f : Bool) (p n : ℕ) (m : Moved) → is_filemark (kind_at s kinds p) ≡ f → BackRun p n m
      → BackRun (suc p) (suc n) (if f then halts p (suc n) AtFilemark else m)
  one_back true p n m e r = at_mark p n e
  one_back false p n m e r = passes p n m e r

  pub back_run : (p n : ℕ) → BackRun p n (blocks_back s kinds p n)
  unfolding blocks_back
  back_run p zero = full p
  back_run zero (suc n) = at-start n
  back_run (suc p) (suc n) = one_back (is_filemark (kind_at s kinds p)) p n _ refl (back_run p n)

  back_ends : {p n : ℕ} {m : Moved} → BackRun p n m → Ended n m
  back_ends (full p) = ended_full p
  back_ends (at-start n) = ended_short (suc n) 0 AtBeginning (omega arith) beginning_short
  back_ends (at_mark p n e) = ended_short (suc n) p AtFilemark (omega arith) filemark_short
  back_ends (passes p n m e r) = ended_on n (suc n) m (omega arith) (back_ends r)

  back_place : {p n : ℕ} {m : Moved} → BackRun p n m → m.place ≤ p
  back_place (full p) = le_refl p
  back_place (at-start n) = le_refl 0
  back_place (at_mark p n e) = omega arith
  back_place (passes p n m e r) = le_step (back_place r)

  -- the same over filemarks
  pub data MarksOnRun : ℕ → ℕ → ℕ → Moved → Type 0 where
    full : (ahead p : ℕ) → MarksOnRun ahead 0 p (halts p 0 Full)
    at-end : (n p : ℕ) → MarksOnRun 0 (suc n) p (halts p (suc n) AtEnd)
    passes : (ahead n p : ℕ) (m : Moved) → MarksOnRun ahead (marks_left (kind_at s kinds p) (suc n)) (p + 1) m → MarksOnRun (suc ahead) (suc n) p m

  pub marks_on_run : (ahead n p : ℕ) → MarksOnRun ahead n p (marks_on s kinds ahead n p)
  unfolding marks_on
  marks_on_run zero zero p = full 0 p
  marks_on_run zero (suc n) p = rw (some n) (at-end n p)
  marks_on_run (suc ahead) zero p = full (suc ahead) p
  marks_on_run (suc ahead) (suc n) p = rw (some n) (passes ahead n p _ (marks_on_run ahead (marks_left (kind_at s kinds p) (suc n)) (p + 1)))

  marks_on_ends : {ahead n p : ℕ} {m : Moved} → MarksOnRun ahead n p m → Ended n m
  marks_on_ends (full ahead p) = ended_full p
  marks_on_ends (at-end n p) = ended_short (suc n) p AtEnd (omega arith) end_short
  marks_on_ends (passes ahead n p m r) = ended_on _ (suc n) m (marks_less (kind_at s kinds p) (suc n)) (marks_on_ends r)

  marks_on_far : {ahead n p : ℕ} {m : Moved} → MarksOnRun ahead n p m → m.place ≤ p + ahead
  marks_on_far (full ahead p) = omega arith
  marks_on_far (at-end n p) = omega arith
  marks_on_far (passes ahead n p m r) = omega (arith, marks_on_far r)

  pub data MarksBackRun : ℕ → ℕ → Moved → Type 0 where
    full : (p : ℕ) → MarksBackRun p 0 (halts p 0 Full)
    at-start : (n : ℕ) → MarksBackRun 0 (suc n) (halts 0 (suc n) AtBeginning)
    passes : (p n : ℕ) (m : Moved) → MarksBackRun p (marks_left (kind_at s kinds p) (suc n)) m → MarksBackRun (suc p) (suc n) m

  pub marks_back_run : (p n : ℕ) → MarksBackRun p n (marks_back s kinds p n)
  unfolding marks_back
  marks_back_run zero zero = full 0
  marks_back_run zero (suc n) = rw (some n) (at-start n)
  marks_back_run (suc p) zero = full (suc p)
  marks_back_run (suc p) (suc n) = rw (some n) (passes p n _ (marks_back_run p (marks_left (kind_at s kinds p) (suc n))))

  marks_back_ends : {p n : ℕ} {m : Moved} → MarksBackRun p n m → Ended n m
  marks_back_ends (full p) = ended_full p
  marks_back_ends (at-start n) = ended_short (suc n) 0 AtBeginning (omega arith) beginning_short
  marks_back_ends (passes p n m r) = ended_on _ (suc n) m (marks_less (kind_at s kinds p) (suc n)) (marks_back_ends r)

  marks_back_near : {p n : ℕ} {m : Moved} → MarksBackRun p n m → m.place ≤ p
  marks_back_near (full p) = le_refl p
  marks_back_near (at-start n) = le_refl 0
  marks_back_near (passes p n m r) = le_step (marks_back_near r)

  module _ (end n p : ℕ) where
    pub blocks-on-ended : Ended n (blocks_on s kinds end n p)
    blocks-on-ended = on_ends (on_run end n p)

    pub blocks-on-place : p ≤ end → (blocks_on s kinds end n p).place ≤ end
    blocks-on-place = on_place (on_run end n p)

  module _ (p n : ℕ) where
    pub blocks-back-ended : Ended n (blocks_back s kinds p n)
    blocks-back-ended = back_ends (back_run p n)

    pub blocks-back-place : (blocks_back s kinds p n).place ≤ p
    blocks-back-place = back_place (back_run p n)

  module _ (ahead n p : ℕ) where
    pub marks-on-ended : Ended n (marks_on s kinds ahead n p)
    marks-on-ended = marks_on_ends (marks_on_run ahead n p)

  pub marks_on_place : (end n p : ℕ) → p ≤ end → (marks_on s kinds (end - p) n p).place ≤ end
  marks_on_place end n p l = let h = marks_on_far (marks_on_run (end - p) n p) in omega arith

  module _ (p n : ℕ) where
    pub marks-back-ended : Ended n (marks_back s kinds p n)
    marks-back-ended = marks_back_ends (marks_back_run p n)

    pub marks-back-place : (marks_back s kinds p n).place ≤ p
    marks-back-place = marks_back_near (marks_back_run p n)
