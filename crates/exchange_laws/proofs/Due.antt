-- Each number exactly where it is due, and that every outcome is settled.
-- Assumes nothing.
use Prim.Native.Nat.{ℕ, zero, suc}
use mathlib.Core.Bool.{true≢false}
use mathlib.Core.List.{List}
use mathlib.Core.Path.{◌≡◌, refl, sym, ap, ◌∙◌, subst}
use native.Mathlib.Omega.{arith}
use borrow.Author.Tests.{eq-eqb, ne_eqb, eqb-true, eqb-false}
use lib.Dec.{eqb}
use Rattle.numbers.specs.Refusals.{number_of as number}
use Rattle.numbers.specs.declared.refusals.Refusal.TheVariants.{TooManyItems}
use Rattle.numbers.proofs.Cases.{test}
use Rattle.image.specs.Header.{fields_of}
use Rattle.packet_state.specs.declared.state.State.{State}
use Rattle.packet_state.specs.Answers.{refusal}
use Rattle.packet_parts.specs.Answers.{Left}
use Rattle.packet_parts.specs.Shell.{refuses}
use Rattle.packet_laws.specs.Words.{number_of, Refusal}
use Rattle.tap.specs.declared.items.Item.{Item}
use Rattle.tap.specs.declared.items.Item.TheVariants.{Ends, Mark, Record, Cut}
use Rattle.tap.specs.Files.{Element, TapeMark, Reading, Refused, Holds, record_in, with_first, met, reads}
use Rattle.tap.specs.Items.{item_at}
use Rattle.exchange.specs.Exporting.{Exported}
use Rattle.exchange_laws.specs.Demands.{RefusedKeeps, NumberExactly, Settled}
use Rattle.exchange_laws.specs.Words.{TakenTo, a_mark, a_record, DueFrom, cut_here, other_size, no_room, ends_here, goes_on}
use Rattle.exchange_laws.specs.Words.{DueImport, bad_image, by_items, DueExport, too_short, written}
use Rattle.exchange_laws.specs.Words.{broken as no-image}
use Rattle.packet_laws.proofs.Settling.{told_settled, left_settled}
use Rattle.exchange_laws.proofs.Ways.{ImportWay, broken, refused, taken, import_way, ExportWay, bad, short, well, export_way}

-- the number that a reading gives
abbrev number_in : Reading → ℕ
number_in (Refused reason) = number reason
number_in (Holds es used) = 0

first_number : (e : Element) (x : Reading) → number_in (with_first e x) ≡ number_in x
first_number e (Refused reason) = refl
first_number e (Holds es used) = refl

module _ (size : ℕ) (file : List ℕ) where
  due_full : (at : ℕ) (x : Item) → item_at file at ≡ x → DueFrom size file zero at (number_in (met size file (λ e next. Refused TooManyItems) x))
  unfolding met
  due_full at (Ends used) i = ends_here zero at used i
  due_full at Cut i = cut_here zero at i
  due_full at (Mark next) i = no_room at next (a_mark next i)
  due_full at (Record r) i =
      test (eqb r.length size)
      (λ e. rw e (no_room at r.next (a_record r i (eqb-true r.length size e))))
      (λ e. rw e (other_size zero at r i (eqb-false r.length size e)))

  due_on : (room : ℕ) → ((at : ℕ) → DueFrom size file room at (number_in (reads size file room at))) → (at : ℕ) (x : Item) → item_at file at ≡ x
      → DueFrom size file (suc room) at (number_in (met size file (λ e next. with_first e (reads size file room next)) x))
  unfolding met
  due_on room h at (Ends used) i = ends_here (suc room) at used i
  due_on room h at Cut i = cut_here (suc room) at i
  due_on room h at (Mark next) i = rw (first_number TapeMark (reads size file room next)) (goes_on room at next _ (a_mark next i) (h next))
  due_on room h at (Record r) i =
      test (eqb r.length size)
      (λ e.
      rw (e, first_number (record_in file r) (reads size file room r.next))
      (goes_on room at r.next _ (a_record r i (eqb-true r.length size e)) (h r.next)))
      (λ e. rw e (other_size (suc room) at r i (eqb-false r.length size e)))

  due : (room at : ℕ) → DueFrom size file room at (number_in (reads size file room at))
  unfolding reads
  due zero at = due_full at (item_at file at) refl
  due (suc room) at = due_on room (due room) at (item_at file at) refl

  -- what is due is given
  taken_full : (at next : ℕ) → TakenTo size file at next → number_in (reads size file zero at) ≡ number TooManyItems
  unfolding reads met
  taken_full at next (a_mark n i) = rw i refl
  taken_full at next (a_record r i q) = rw (i, eq-eqb r.length size q) refl

  taken_on : (room at next : ℕ) → TakenTo size file at next → number_in (reads size file (suc room) at) ≡ number_in (reads size file room next)
  unfolding reads met
  taken_on room at next (a_mark n i) = rw i (first_number TapeMark (reads size file room n))
  taken_on room at next (a_record r i q) = rw (i, eq-eqb r.length size q) (first_number (record_in file r) (reads size file room r.next))

  given : (room at n : ℕ) → DueFrom size file room at n → number_in (reads size file room at) ≡ n
  unfolding reads met
  given zero at n (cut_here room a i) = rw i refl
  given (suc room) at n (cut_here room' a i) = rw i refl
  given zero at n (other_size room a r i q) = rw (i, ne_eqb r.length size q) refl
  given (suc room) at n (other_size room' a r i q) = rw (i, ne_eqb r.length size q) refl
  given zero at n (no_room a next t) = taken_full at next t
  given zero at n (ends_here room a used i) = rw i refl
  given (suc room) at n (ends_here room' a used i) = rw i refl
  given (suc room) at n (goes_on r a next m t d) = taken_on room at next t ∙ given room next n d

module _ (s : List ℕ) (st : State) (file : List ℕ) where
  refusal_is : (n : ℕ) → Refusal s st file (refuses st n s file)
  refusal_is n =
      record { status_zero = refl; no_blocks = refl; no_bytes = refl; no_marked = refl; state_kept = refl; image_kept = refl; buf_kept = refl }

  refused_by : {x : Left State} → ImportWay s st file x → (number_of x ≡ 0 → ⊥) → Refusal s st file x
  refused_by (broken b) f = refusal_is 2
  refused_by (refused reason g e) f = refusal_is (number reason)
  refused_by (taken es used g e) f = absurd (f refl)

  import_due : {x : Left State} → ImportWay s st file x → DueImport s file (number_of x)
  import_due (broken b) = bad_image (λ e. true≢false (sym e ∙ b))
  import_due (refused reason g e) = by_items (number reason) g (rw e at (due (fields_of s).size file (fields_of s).capacity 0))
  import_due (taken es used g e) = by_items 0 g (rw e at (due (fields_of s).size file (fields_of s).capacity 0))

  import_given : {x : Left State} {n : ℕ} → ImportWay s st file x → DueImport s file n → number_of x ≡ n
  import_given (broken b) (bad_image f) = refl
  import_given (broken b) (by_items n g d) = absurd (true≢false (sym g ∙ b))
  import_given (refused reason g e) (bad_image f) = absurd (f g)
  import_given (refused reason g e) (by_items n g' d) = rw e at (given (fields_of s).size file (fields_of s).capacity 0 n d)
  import_given (taken es used g e) (bad_image f) = absurd (f g)
  import_given (taken es used g e) (by_items n g' d) = rw e at (given (fields_of s).size file (fields_of s).capacity 0 n d)

module _ (s file : List ℕ) where
  export_refused_by : {x : Exported} → ExportWay s file x → (x.answer.number ≡ 0 → ⊥) → (x.answer ≡ refusal x.answer.number) × (x.file ≡ file)
  export_refused_by (bad b) f = (refl, refl)
  export_refused_by (short g l) f = (refl, refl)
  export_refused_by (well g l) f = absurd (f refl)

  export_due : {x : Exported} → ExportWay s file x → DueExport s file x.answer.number
  export_due (bad b) = no-image (λ e. true≢false (sym e ∙ b))
  export_due (short g l) = too_short g l
  export_due (well g l) = written g l

  export_given : {x : Exported} {n : ℕ} → ExportWay s file x → DueExport s file n → x.answer.number ≡ n
  export_given (bad b) (no-image f) = refl
  export_given (bad b) (too_short g l) = absurd (true≢false (sym g ∙ b))
  export_given (bad b) (written g l) = absurd (true≢false (sym g ∙ b))
  export_given (short g l) (no-image f) = absurd (f g)
  export_given (short g l) (too_short h m) = refl
  export_given (short g l) (written h m) = absurd (omega arith)
  export_given (well g l) (no-image f) = absurd (f g)
  export_given (well g l) (too_short h m) = absurd (omega arith)
  export_given (well g l) (written h m) = refl

pub refused_keeps : RefusedKeeps
refused_keeps =
    record {
      imported = λ s st file f. refused_by s st file (import_way s st file) f;
      exported = λ s file f. export_refused_by s file (export_way s file) f;
    }

pub number_exactly : NumberExactly
number_exactly =
    record {
      imported = λ s st file n. (
        (λ e. subst (λ (k : ℕ). DueImport s file k) e (import_due s st file (import_way s st file))),
        (λ d. import_given s st file (import_way s st file) d),
      );
      exported = λ s file n. (
        (λ e. subst (λ (k : ℕ). DueExport s file k) e (export_due s file (export_way s file))),
        (λ d. export_given s file (export_way s file) d),
      );
    }

pub settled : Settled
settled =
    record {
      imported = λ s st file r r' i i' p q. let z = left_settled st r r' i i' file file (p ∙ sym q) in (z.0, z.1);
      exported = λ s file r r' f f' p q.
          let e = p ∙ sym q in
          (told_settled r r' (ap (λ (x : Exported). x.answer) e), ap (λ (x : Exported). x.file) e);
    }
