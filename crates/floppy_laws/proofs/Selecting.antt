-- What MODE SELECT and LOAD set: one case split over the lists, and the tape parameters after any packet.
-- Assumes nothing.
use Rattle.std.specs.Prelude.{if◌then◌else◌}
use Prim.Native.Nat.{ℕ, ◌≤◌, ◌<◌}
use native.Mathlib.Omega.{arith}
use mathlib.Core.Bool.{Bool, true, false, not, ◌&&◌, true≢false}
use mathlib.Core.List.{List}
use mathlib.Core.Logic.{◌↔◌}
use mathlib.Core.Path.{◌≡◌, refl, sym, ◌∙◌}
use borrow.Author.Tests.{eqb-true, eqb-false, eq-eqb, le-leb, lt-ltb, le-ltb}
use lib.Dec.{leb, eqb}
use Rattle.numbers.proofs.RuleLaws.{split}
use Rattle.image.specs.declared.header.Header.{Header}
use Rattle.image.specs.Header.{fields_of}
use Rattle.opcodes.specs.declared.Command.{Command}
use Rattle.opcodes.specs.declared.Command.TheVariants.{Unknown, TestUnitReady, Rewind, RequestSense, Read, Write, WriteFilemarks, Space, Inquiry}
use Rattle.opcodes.specs.declared.Command.TheVariants.{ModeSelect, ModeSense, LoadUnload, Locate, ReadPosition, PreventAllow}
use Rattle.packet_state.specs.Answers.{Good, Check}
use Rattle.packet_state.specs.declared.state.Outcome.{Outcome}
use Rattle.packet_state.specs.declared.state.State.{State}
use Rattle.packet_state.specs.Senses.{wrong_list}
use Rattle.packet_state.specs.States.{at_place, with_speed, with_sense}
use Rattle.packet_parts.specs.declared.requests.Request.{Request}
use Rattle.packet_parts.specs.Answers.{Left, ends, good_status}
use Rattle.packet_parts.specs.Replies.{full_list}
use Rattle.packet_parts.specs.Shell.{carried_out}
use Rattle.packet_work.specs.Settings.{list_speed, good_list, speed_work}
use Rattle.packet_laws.proofs.Ways.{Way, cut, broken, unruly, short, ends-early, works, way}
use Rattle.floppy_parts.specs.declared.tape.Floppy.{Floppy}
use Rattle.floppy_parts.specs.declared.tape.Tape.{Tape}
use Rattle.floppy_parts.specs.Replies.{tape_page, tape_page_length, tape_list}
use Rattle.floppy_parts.specs.Requests.{floppy_request}
use Rattle.floppy_parts.specs.Tape.{product, page_byte, listed_tape, floppy_of}
use Rattle.floppy_parts.specs.Settings.{good_tape_list, selected_tape, loaded_tape, tape_after}
use Rattle.floppy.specs.Packet.{floppy_device}
use Rattle.floppy_parts.proofs.SettingLaws.{good_within}
use Rattle.floppy.specs.Work.{place_under, tape_work, select_work, work_of}
use Rattle.floppy_laws.specs.Demands.{SelectExactly}
use Rattle.floppy_laws.specs.Words.{TakesList}
use Rattle.floppy_laws.proofs.Working.{step_is}

-- ---- a list of 28 bytes

module _ (h : Header) (list : List ℕ) where
  takes_of : good_tape_list h list ≡ true → TakesList h list
  unfolding good_tape_list
  takes_of e =
      let a = eqb (page_byte list 0) tape_page in
      let b = eqb (page_byte list 1) tape_page_length in
      let p = split (a && b) (leb (product (listed_tape list)) h.capacity) e in
      let q = split a b p.0 in
      let w = good_within h list e in
      record { code = eqb-true _ _ q.0; after = eqb-true _ _ q.1; within = omega arith }

  of_takes : TakesList h list → good_tape_list h list ≡ true
  unfolding good_tape_list
  of_takes t = rw (eq-eqb _ _ t.code, eq-eqb _ _ t.after, le-leb (product (listed_tape list)) h.capacity (omega (arith, t.within)))

-- ---- a list of any length: what it leaves of the record, and the tape parameters

module _ (h : Header) (st : State) (t : Tape) (list : List ℕ) (asked : ℕ) where
  pub data Selected : Outcome State → Tape → Type 0 where
    speed-set : asked ≡ full_list → good_list list ≡ true → Selected (ends (with_speed st (list_speed list)) Good 0 full_list) t
    speed-wrong : asked ≡ full_list → Selected (ends st (Check wrong_list) 0 0) t
    tape-set : asked ≡ tape_list → TakesList h list
        → Selected (ends (at_place st (place_under (product (listed_tape list)) st.position)) Good 0 tape_list) (listed_tape list)
    tape-wrong : asked ≡ tape_list → (TakesList h list → ⊥) → Selected (ends st (Check wrong_list) 0 0) t
    nothing-set : (asked ≡ tape_list → ⊥) → Selected (ends st Good 0 asked) t

  selected_by : (a b g w : Bool) → eqb asked full_list ≡ a → eqb asked tape_list ≡ b → good_list list ≡ g → good_tape_list h list ≡ w
      → Selected
      (if a then (if not g then ends st (Check wrong_list) 0 0 else ends (with_speed st (list_speed list)) Good 0 full_list) else
      if b then
      (if not w then ends st (Check wrong_list) 0 0 else ends (at_place st (place_under (product (listed_tape list)) st.position)) Good 0 tape_list) else
      ends st Good 0 asked)
      (if b && w then listed_tape list else t)
  selected_by true true g w p q r k = absurd (omega (arith, eqb-true asked full_list p, eqb-true asked tape_list q))
  selected_by true false true w p q r k = speed-set (eqb-true _ _ p) r
  selected_by true false false w p q r k = speed-wrong (eqb-true _ _ p)
  selected_by false true g true p q r k = tape-set (eqb-true _ _ q) (takes_of h list k)
  selected_by false true g false p q r k = tape-wrong (eqb-true _ _ q) (λ x. true≢false (sym (of_takes h list x) ∙ k))
  selected_by false false g w p q r k = nothing-set (eqb-false _ _ q)

  pub selected : Selected (select_work h st asked list) (selected_tape h t asked list)
  unfolding select_work speed_work tape_work selected_tape
  selected = selected_by _ _ _ _ refl refl refl refl

  module _ (e : asked ≡ tape_list) where
    taken_by : {out : Outcome State} {t' : Tape} → Selected out t' → (out.answer.status ≡ good_status) ↔ TakesList h list
    unfolding ends
    taken_by (speed-set q g) = absurd (omega arith)
    taken_by (speed-wrong q) = absurd (omega arith)
    taken_by (tape-set q x) = ((λ z. x), (λ z. refl))
    taken_by (tape-wrong q x) = ((λ z. absurd (omega arith)), (λ z. absurd (x z)))
    taken_by (nothing-set q) = absurd (q e)

    set_by : {out : Outcome State} {t' : Tape} → Selected out t' → TakesList h list
        → (t' ≡ listed_tape list) × (out.state.position ≡ place_under (product (listed_tape list)) st.position)
    unfolding ends
    set_by (speed-set q g) x = absurd (omega arith)
    set_by (speed-wrong q) x = absurd (omega arith)
    set_by (tape-set q y) x = (refl, refl)
    set_by (tape-wrong q y) x = absurd (y x)
    set_by (nothing-set q) x = absurd (q e)

    left_by : {out : Outcome State} {t' : Tape} → Selected out t' → (TakesList h list → ⊥) → floppy_of out.state t' ≡ floppy_of (with_sense st wrong_list) t
    unfolding ends
    left_by (speed-set q g) x = absurd (omega arith)
    left_by (speed-wrong q) x = refl
    left_by (tape-set q y) x = absurd (x y)
    left_by (tape-wrong q y) x = refl
    left_by (nothing-set q) x = absurd (q e)

-- ---- "one that puts it below P sets P 0"

module _ (end p : ℕ) where
  under_below : end < p → place_under end p ≡ 0
  unfolding place_under
  under_below l = rw (lt-ltb end p l)

  under_above : p ≤ end → place_under end p ≡ p
  unfolding place_under
  under_above l = rw (le-ltb end p l)

-- ---- the tape parameters after any packet

module _ (s : List ℕ) (f : Floppy) (packet buf : List ℕ) where
  tape_by : {x : Left Floppy} → Way floppy_device s f packet buf x
      → tape_after (floppy_request packet).command (fields_of s) f.tape (floppy_request packet) buf ≡ f.tape → x.state.tape ≡ f.tape
  unfolding carried_out
  tape_by (cut n) e = refl
  tape_by (broken t b) e = refl
  tape_by (unruly t g b) e = refl
  tape_by (short p u l) e = refl
  tape_by (ends-early p x u k) e = refl
  tape_by (works p u l) e = e

other_tape : (c : Command) (h : Header) (t : Tape) (q : Request) (buf : List ℕ) → (c ≡ ModeSelect → ⊥) → (c ≡ LoadUnload → ⊥) → tape_after c h t q buf ≡ t
unfolding tape_after
other_tape Unknown h t q buf a b = refl
other_tape TestUnitReady h t q buf a b = refl
other_tape Rewind h t q buf a b = refl
other_tape RequestSense h t q buf a b = refl
other_tape Read h t q buf a b = refl
other_tape Write h t q buf a b = refl
other_tape WriteFilemarks h t q buf a b = refl
other_tape Space h t q buf a b = refl
other_tape Inquiry h t q buf a b = refl
other_tape ModeSelect h t q buf a b = absurd (a refl)
other_tape ModeSense h t q buf a b = refl
other_tape LoadUnload h t q buf a b = absurd (b refl)
other_tape Locate h t q buf a b = refl
other_tape ReadPosition h t q buf a b = refl
other_tape PreventAllow h t q buf a b = refl

pub select_exactly : SelectExactly
unfolding work_of tape_after loaded_tape
select_exactly =
    record {
      taken = λ s f packet list b c e.
          rw (step_is s f packet list b ModeSelect c) (taken_by _ f.shared f.tape _ _ e (selected _ f.shared f.tape _ _));
      set = λ s f packet list b c e x.
          rw (step_is s f packet list b ModeSelect c) (set_by _ f.shared f.tape _ _ e (selected _ f.shared f.tape _ _) x).0;
      below = λ s f packet list b c e x l.
          rw (step_is s f packet list b ModeSelect c) ((set_by _ f.shared f.tape _ _ e (selected _ f.shared f.tape _ _) x).1 ∙ under_below _ _ l);
      above = λ s f packet list b c e x l.
          rw (step_is s f packet list b ModeSelect c) ((set_by _ f.shared f.tape _ _ e (selected _ f.shared f.tape _ _) x).1 ∙ under_above _ _ l);
      left = λ s f packet list b c e x.
          rw (step_is s f packet list b ModeSelect c) (left_by _ f.shared f.tape _ _ e (selected _ f.shared f.tape _ _) x);
      load = λ s f packet buf b c e. rw (step_is s f packet buf b LoadUnload c, e);
      unload = λ s f packet buf c e. tape_by s f packet buf (way floppy_device s f packet buf) (rw (c, e));
      others = λ s f packet buf a b. tape_by s f packet buf (way floppy_device s f packet buf) (other_tape _ _ _ _ _ a b);
    }
