-- Why a run stops and where it then stands, for any end: what was moved is what is counted.
-- Assumes nothing.
use Prim.Native.Nat.{ℕ, suc, ◌+◌, ◌-◌, ◌≤◌, ◌<◌}
use native.Mathlib.Omega.{arith}
use mathlib.Core.Bool.{false, false≢true}
use mathlib.Core.List.{List}
use mathlib.Core.Path.{◌≡◌, refl, sym, ap}
use Rattle.image.specs.declared.elements.Kind.{Kind}
use Rattle.image.specs.declared.elements.Kind.TheVariants.{Data, Filemark, Unreadable, Marked}
use Rattle.image.specs.Elements.{holds_data, kind_at}
use Rattle.transfer.specs.declared.Moved.{Moved}
use Rattle.transfer.specs.declared.Stop.TheVariants.{Full, AtFilemark, AtBadBlock, AtEnd}
use Rattle.transfer.specs.Moving.{halts}
use Rattle.transfer.specs.Reading.{Reading, stop_at}
use Rattle.transfer.specs.Writing.{Writing, writes, lay_from}
use Rattle.transfer.proofs.ReadLaws.{ReadRun}
use Rattle.transfer.proofs.WriteLaws.{LayRun, lay_run, lay-left}

-- ---- READ

module _ (s : List ℕ) (kinds end : ℕ) where
  -- from place p on, n blocks: all are copied, or k of them, and element p + k or the end stops it
  pub data ReadStops (p n : ℕ) (m : Moved) : Type 0 where
    all_copied : m.stop ≡ Full → m.left ≡ 0 → m.place ≡ p + n → ReadStops p n m
    at-filemark : (k : ℕ) → m.stop ≡ AtFilemark → 1 ≤ m.left → k + m.left ≡ n → m.place ≡ p + k + 1
        → p + k < end → kind_at s kinds (p + k) ≡ Filemark → ReadStops p n m
    at-bad-block : (k : ℕ) → m.stop ≡ AtBadBlock → 1 ≤ m.left → k + m.left ≡ n → m.place ≡ p + k + 1
        → p + k < end → kind_at s kinds (p + k) ≡ Unreadable → ReadStops p n m
    at-end : (k : ℕ) → m.stop ≡ AtEnd → 1 ≤ m.left → k + m.left ≡ n → m.place ≡ p + k → p + k ≡ end → ReadStops p n m

  -- the first element stops it
  by_kind : (n p : ℕ) (kind : Kind) → p < end → holds_data kind ≡ false → kind_at s kinds p ≡ kind → ReadStops p (suc n) (halts (p + 1) (suc n) (stop_at kind))
  unfolding stop_at
  by_kind n p Data l f e = absurd (false≢true (sym f))
  by_kind n p Filemark l f e =
      let y : p + 0 ≡ p = omega arith in
      at-filemark 0 refl (omega arith) (omega arith) (omega arith) (omega arith) (rw y e)
  by_kind n p Unreadable l f e =
      let y : p + 0 ≡ p = omega arith in
      at-bad-block 0 refl (omega arith) (omega arith) (omega arith) (omega arith) (rw y e)
  by_kind n p Marked l f e = absurd (false≢true (sym f))

  -- one block more before the rest
  one_more : (n p : ℕ) (m : Moved) → ReadStops (p + 1) n m → ReadStops p (suc n) m
  one_more n p m (all_copied f z w) = all_copied f z (omega arith)
  one_more n p m (at-filemark k f l e w b t) =
      let y : p + suc k ≡ p + 1 + k = omega arith in
      at-filemark (suc k) f l (omega arith) (omega arith) (omega arith) (rw y t)
  one_more n p m (at-bad-block k f l e w b t) =
      let y : p + suc k ≡ p + 1 + k = omega arith in
      at-bad-block (suc k) f l (omega arith) (omega arith) (omega arith) (rw y t)
  one_more n p m (at-end k f l e w b) = at-end (suc k) f l (omega arith) (omega arith) (omega arith)

  module _ (size blocks : ℕ) where
    pub read-stops : {n off p : ℕ} {buf : List ℕ} {X : Reading} → ReadRun s size kinds blocks end n off p buf X → p ≤ end → ReadStops p n X.moved
    read-stops (ReadRun.full off p buf) l = all_copied refl refl (omega arith)
    read-stops (ReadRun.at-end n off p buf h) l = at-end 0 refl (omega arith) (omega arith) (omega arith) (omega arith)
    read-stops (ReadRun.stops n off p buf h e) l = by_kind n p (kind_at s kinds p) h e refl
    read-stops (ReadRun.copies n off p buf X h e r) l = one_more n p X.moved (read-stops r (omega arith))

-- ---- WRITE and WRITE FILEMARK

module _ (end : ℕ) where
  -- from place p on, n elements: all are laid, or k of them, and the end stops it
  pub data LayStops (p n : ℕ) (m : Moved) : Type 0 where
    all_laid : m.left ≡ 0 → m.place ≡ p + n → p + n ≤ end → LayStops p n m
    at-end : (k : ℕ) → 1 ≤ m.left → k + m.left ≡ n → m.place ≡ p + k → p + k ≡ end → LayStops p n m

  lays_more : (n p : ℕ) (m : Moved) → LayStops (p + 1) n m → LayStops p (suc n) m
  lays_more n p m (all_laid z w b) = all_laid z (omega arith) (omega arith)
  lays_more n p m (at-end k l e w b) = at-end (suc k) l (omega arith) (omega arith) (omega arith)

  stands_within : {p n : ℕ} {m : Moved} → LayStops p n m → m.place ≤ end
  stands_within (all_laid z w b) = omega arith
  stands_within (at-end k l e w b) = omega arith

  few_where_it_stops : {p n : ℕ} {m : Moved} → LayStops p n m → n - m.left ≤ end
  few_where_it_stops (all_laid z w b) = omega arith
  few_where_it_stops (at-end k l e w b) = omega arith

  module _ (lay : ℕ → ℕ → List ℕ → List ℕ) (size : ℕ) where
    pub lay-stops : {n off p : ℕ} {s : List ℕ} {X : Writing} → LayRun lay size end n off p s X → p ≤ end → LayStops p n X.moved
    lay-stops (LayRun.full off p s) l = all_laid refl (omega arith) (omega arith)
    lay-stops (LayRun.at-end n off p s h) l = at-end 0 (omega arith) (omega arith) (omega arith) (omega arith)
    lay-stops (LayRun.lays n off p s X h r) l = lays_more n p X.moved (lay-stops r (omega arith))

    -- and it never stands beyond the end
    pub lay-within : {n off p : ℕ} {s : List ℕ} {X : Writing} → LayRun lay size end n off p s X → p ≤ end → X.moved.place ≤ end
    lay-within r l = stands_within (lay-stops r l)

    -- what a run that came to this lays: no more than was asked for, and no more than the end's place
    module _ (n p : ℕ) (s new : List ℕ) (m : Moved) (run : writes new m ≡ lay_from lay size end n 0 p s) where
      left_of : m.left ≡ (lay_from lay size end n 0 p s).moved.left
      left_of = ap (λ (w : Writing). w.moved.left) run

      pub laid-less : m.left ≤ n
      laid-less = rw left_of (lay-left lay size end n 0 p s)

      pub laid-few : p ≤ end → n - m.left ≤ end
      laid-few l = rw left_of (few_where_it_stops (lay-stops (lay_run lay size end n 0 p s) l))
