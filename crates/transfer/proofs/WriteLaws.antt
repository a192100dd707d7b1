-- Runs that lay elements, one at a time: what is left to do gives what the whole gives.
-- Assumes nothing.
use Rattle.std.specs.Prelude.{if◌then◌else◌}
use mathlib.Core.Path.{◌≡◌, refl}
use mathlib.Core.Bool.{Bool, true, false}
use mathlib.Core.List.{List}
use Prim.Native.Nat.{ℕ, zero, suc, ◌+◌, ◌-◌, ◌<◌, ◌≤◌}
use native.Mathlib.Omega.{arith}
use borrow.Author.Tests.{le-leb, lt-leb, leb-true, leb-false}
use lib.Dec.{leb}
use Rattle.transfer.specs.declared.Moved.{Moved}
use Rattle.transfer.specs.declared.Stop.TheVariants.{Full, AtEnd}
use Rattle.transfer.specs.Moving.{halts}
use Rattle.transfer.specs.Writing.{Writing, writes, lay_from}
use Rattle.transfer.proofs.EndLaws.{none_left, some_left, Ended, ended_full, ended_short, ended_on, end_short}

-- from place p on, n were asked for: each one done is one place
record Advanced (n p : ℕ) (m : Moved) : Type 0 where
  ended : Ended n m
  passed : m.place + m.left ≡ p + n

-- ---- the loops' steps: of n asked for, `done` are done

module _ (lay : ℕ → ℕ → List ℕ → List ℕ) (size end n done off p : ℕ) (s : List ℕ) where
  pub lay_full : done ≡ n → lay_from lay size end (n - done) off (p + done) s ≡ writes s (halts (p + done) 0 Full)
  unfolding lay_from
  lay_full e = rw (none_left n done e) refl

  pub lay_at_end : done < n → end ≤ p + done → lay_from lay size end (n - done) off (p + done) s ≡ writes s (halts (p + done) (n - done) AtEnd)
  unfolding lay_from
  lay_at_end l e = rw (some_left n done l, le-leb end (p + done) e) refl

  pub lay_lays : done < n → p + done < end
      → lay_from lay size end (n - done) off (p + done) s ≡ lay_from lay size end (n - (done + 1)) (off + size) (p + (done + 1)) (lay off (p + done) s)
  unfolding lay_from
  lay_lays l e =
      let y : p + done + 1 ≡ p + (done + 1) = omega arith in
      rw (some_left n done l, lt-leb end (p + done) e, y) refl

pub ruleset lay_ways = (lay_full, lay_at_end, lay_lays)

module _ (lay : ℕ → ℕ → List ℕ → List ℕ) (size end : ℕ) where
  -- ---- the whole run

  -- how a run of n elements goes, step by step, to its outcome
  pub data LayRun : ℕ → ℕ → ℕ → List ℕ → Writing → Type 0 where
    full : (off p : ℕ) (s : List ℕ) → LayRun 0 off p s (writes s (halts p 0 Full))
    at-end : (n off p : ℕ) (s : List ℕ) → end ≤ p → LayRun (suc n) off p s (writes s (halts p (suc n) AtEnd))
    lays : (n off p : ℕ) (s : List ℕ) (X : Writing) → p < end → LayRun n (off + size) (p + 1) (lay off p s) X → LayRun (suc n) off p s X

  one_lay : (t : Bool) (n off p : ℕ) (s : List ℕ) (X : Writing) → leb end p ≡ t → LayRun n (off + size) (p + 1) (lay off p s) X
      → LayRun (suc n) off p s (if t then writes s (halts p (suc n) AtEnd) else X)
  one_lay true n off p s X h r = at-end n off p s (leb-true end p h)
  one_lay false n off p s X h r = lays n off p s X (leb-false end p h) r

  pub lay_run : (n off p : ℕ) (s : List ℕ) → LayRun n off p s (lay_from lay size end n off p s)
  unfolding lay_from
  lay_run zero off p s = full off p s
  lay_run (suc n) off p s = one_lay (leb end p) n off p s _ refl (lay_run n (off + size) (p + 1) (lay off p s))

  lay_ends : {n off p : ℕ} {s : List ℕ} {X : Writing} → LayRun n off p s X → Advanced n p X.moved
  lay_ends (full off p s) = record { ended = ended_full p; passed = refl }
  lay_ends (at-end n off p s h) = record { ended = ended_short (suc n) p AtEnd (omega arith) end_short; passed = refl }
  lay_ends (lays n off p s X h r) =
      let a = lay_ends r in
      record { ended = ended_on n (suc n) X.moved (omega arith) a.ended; passed = omega (arith, a.passed) }

  module _ (n off p : ℕ) (s : List ℕ) where
    pub lay-ended : Ended n (lay_from lay size end n off p s).moved
    lay-ended = (lay_ends (lay_run n off p s)).ended

    pub lay-left : (lay_from lay size end n off p s).moved.left ≤ n
    lay-left = lay-ended.less

    pub lay-passed : (lay_from lay size end n off p s).moved.place + (lay_from lay size end n off p s).moved.left ≡ p + n
    lay-passed = (lay_ends (lay_run n off p s)).passed
