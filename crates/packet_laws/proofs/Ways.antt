-- The ways that a packet can go: one case split, cited by every theorem.
-- Assumes nothing.
use Rattle.std.specs.Prelude.{if◌then◌else◌}
use Prim.Native.Nat.{ℕ, ◌≤◌, ◌<◌}
use mathlib.Core.Bool.{Bool, true, false, not, ◌&&◌, ◌||◌, true≢false}
use mathlib.Core.List.{List}
use mathlib.Core.Path.{◌≡◌, refl}
use borrow.Author.Tests.{eqb-true, eqb-false, eq-eqb}
use lib.Dec.{eqb}
use lib.ListN.{length}
use Rattle.numbers.specs.declared.refusals.Refusal.TheVariants.{ShortBuffer}
use Rattle.image.specs.declared.header.Header.{Header}
use Rattle.image.specs.Header.{fields_of, broken_image}
use Rattle.packet_state.specs.declared.state.Sense.{Sense}
use Rattle.packet_state.specs.declared.state.State.{State}
use Rattle.packet_state.specs.declared.state.Verdict.{Verdict}
use Rattle.packet_state.specs.declared.state.Verdict.TheVariants.{Refuses, Ends, Works}
use Rattle.packet_parts.specs.declared.requests.Request.{Request}
use Rattle.packet_parts.specs.declared.verdicts.Asked.{Asked}
use Rattle.packet_parts.specs.Answers.{Left, not_twelve_bytes, unruly_record}
use Rattle.packet_parts.specs.Requests.{packet_length}
use Rattle.packet_parts.specs.Shell.{Device, with_work, refuses, carried_out, found_by, ends_first, decided, answers_to}
use Rattle.packet_parts.specs.Verdicts.{is_protected, is_held, ends_early}
use Rattle.packet_parts.proofs.VerdictLaws.{Early, Found, found_early, found-short, found-clear, found}
use Rattle.packet_laws.specs.Words.{room_for, Unended, Passes}

third_fifth_false : (a b c d e f g : Bool) → (a || b || c || d || e || f || g) ≡ false → (c ≡ false) × (e ≡ false)
third_fifth_false true b c d e f g q = absurd (true≢false q)
third_fifth_false false true c d e f g q = absurd (true≢false q)
third_fifth_false false false true d e f g q = absurd (true≢false q)
third_fifth_false false false false true e f g q = absurd (true≢false q)
third_fifth_false false false false false true f g q = absurd (true≢false q)
third_fifth_false false false false false false f g q = (refl, refl)

-- nothing ended it: no field of it is bad, and it does not unload a locked drive
none_found : (a : Asked) (protected : Bool) (st : State) → ends_early a protected st ≡ false → (a.field ≡ false) × ((a.unloads && st.locked) ≡ false)
unfolding ends_early
none_found a protected st =
    third_fifth_false (is_held st.attention a.exempt) (not a.known) a.field a.length (a.unloads && st.locked)
    (a.mounted && not st.loaded) (a.stores && protected)

module _ {R : Type 0} (d : Device R) (s : List ℕ) (st : R) (packet buf : List ℕ) where
  abbrev pub FoundFor : Verdict → Type 0
  FoundFor v = Found (d.asks (fields_of s) st (d.request packet)) (is_protected (fields_of s)) (d.shared st) (length buf) v

  pub found_for : FoundFor (found_by d (fields_of s) st (d.request packet) (length buf))
  found_for = found _ _ _ _

  abbrev pub carried : Verdict → Left R
  carried v = carried_out d v s (fields_of s) st (d.request packet) buf

  pub data Way : Left R → Type 0 where
    cut : (length packet ≡ packet_length → ⊥) → Way (refuses st not_twelve_bytes s buf)
    broken : length packet ≡ packet_length → d.accepts s ≡ false → Way (refuses st broken_image s buf)
    unruly : length packet ≡ packet_length → d.accepts s ≡ true → d.keeps_rules (fields_of s) st ≡ false → Way (refuses st unruly_record s buf)
    short : Passes d s st packet buf → Unended d s st packet buf → length buf < room_for d s st packet buf → Way (carried (Refuses ShortBuffer))
    ends-early : Passes d s st packet buf → (x : Sense) → ends_first d (fields_of s) st (d.request packet) ≡ true → Early x → Way (carried (Ends x))
    works : Passes d s st packet buf → Unended d s st packet buf → room_for d s st packet buf ≤ length buf → Way (carried Works)

  by_verdict : {v : Verdict} → Passes d s st packet buf → FoundFor v → Way (carried v)
  by_verdict p (found_early x e k) = ends-early p x e k
  by_verdict p (found-short e l) = short p e l
  by_verdict p (found-clear e l) = works p e l

  -- the order of the checks 1 to 3, by their tests
  abbrev shell : Bool → Bool → Bool → Left R
  shell a b c =
      if not a then refuses st not_twelve_bytes s buf else
      if not b then refuses st broken_image s buf else
      if not c then refuses st unruly_record s buf else
      decided d s (fields_of s) st (d.request packet) buf

  by_tests : (a b c : Bool) → eqb (length packet) packet_length ≡ a → d.accepts s ≡ b → d.keeps_rules (fields_of s) st ≡ c → Way (shell a b c)
  unfolding decided
  by_tests false b c p r t = cut (eqb-false _ _ p)
  by_tests true false c p r t = broken (eqb-true _ _ p) r
  by_tests true true false p r t = unruly (eqb-true _ _ p) r t
  by_tests true true true p r t = by_verdict (record { twelve = eqb-true _ _ p; good = r; ruly = t }) found_for

  pub way : Way (answers_to d s st packet buf)
  unfolding answers_to
  way = by_tests _ _ _ refl refl refl

  pub unended_field : Unended d s st packet buf → (d.asks (fields_of s) st (d.request packet)).field ≡ false
  unended_field e = (none_found _ _ _ e).0

  pub unended_door : Unended d s st packet buf → ((d.asks (fields_of s) st (d.request packet)).unloads && (d.shared st).locked) ≡ false
  unended_door e = (none_found _ _ _ e).1

  -- past 1, 2 and 3 the verdict decides
  pub step_passed : Passes d s st packet buf → answers_to d s st packet buf ≡ carried (found_by d (fields_of s) st (d.request packet) (length buf))
  unfolding answers_to decided
  step_passed p = rw (eq-eqb _ _ p.twelve, p.good, p.ruly)

-- two devices that differ in their work alone: P holds of what they leave where it holds of their refusals and of what each verdict comes to
module _ {R : Type 0} (d : Device R) (work : List ℕ → Header → R → Request → List ℕ → Left R) (s : List ℕ) (st : R) (packet buf : List ℕ)
    (P : Left R → Left R → Type 0) (refused : (n : ℕ) → P (refuses st n s buf) (refuses st n s buf))
    (judged : (v : Verdict) → Passes d s st packet buf → FoundFor d s st packet buf v
    → P (carried d s st packet buf v) (carried (with_work d work) s st packet buf v)) where
  tests_beside : (a b c : Bool) → eqb (length packet) packet_length ≡ a → d.accepts s ≡ b → d.keeps_rules (fields_of s) st ≡ c
      → P (shell d s st packet buf a b c) (shell (with_work d work) s st packet buf a b c)
  unfolding decided
  tests_beside false b c p r t = refused not_twelve_bytes
  tests_beside true false c p r t = refused broken_image
  tests_beside true true false p r t = refused unruly_record
  tests_beside true true true p r t = judged _ (record { twelve = eqb-true _ _ p; good = r; ruly = t }) (found_for d s st packet buf)

  pub way_beside : P (answers_to d s st packet buf) (answers_to (with_work d work) s st packet buf)
  unfolding answers_to
  way_beside = tests_beside _ _ _ refl refl refl
