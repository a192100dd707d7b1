-- An export and an import on the bytes.
-- Assumes nothing.
use mathlib.Core.Path.{◌≡◌, refl, ap}
use mathlib.Core.List.{List, [], ◌∷◌, ◌++◌, append_assoc}
use Prim.Native.Nat.{ℕ, zero, suc, ◌+◌, ◌*◌, ◌/◌, ◌%◌}
use native.Mathlib.Nat.{mul-le-mul_right}
use native.Mathlib.Omega.{arith}
use borrow.Author.Tests.{eqb-false, lt-ltb, ne_eqb}
use lib.ListN.{length, take, drop, replicate}
use lib.Seq.{get_or-drop}
use Rattle.numbers.specs.Flags.{weight_of}
use Rattle.numbers.specs.Over.{part}
use Rattle.numbers.specs.Refusals.{number_of}
use Rattle.numbers.specs.Words.{word_bytes}
use Rattle.numbers.proofs.RefusalLaws.{not_zero}
use Rattle.image.specs.declared.elements.Kind.{Kind}
use Rattle.image.specs.declared.elements.Kind.TheVariants.{Data, Filemark, Unreadable, Marked}
use Rattle.image.specs.declared.header.Header.{Header}
use Rattle.image.specs.Elements.{kind_at, block_at}
use Rattle.image.specs.Header.{fields_of}
use Rattle.image.proofs.HeaderLaws.{sound, good_header}
use Rattle.packet_state.specs.Answers.{Answer}
use Rattle.packet_state.specs.declared.state.State.{State}
use Rattle.packet_parts.specs.Answers.{Left}
use Rattle.packet_record.specs.PacketRecord.{decode_state, encode_answer}
use Rattle.tap.specs.Files.{Element, TapeMark, Block, record_bytes, bytes_of, file_of}
use Rattle.tap.specs.Items.{tape_mark, end_mark, high_bit}
use Rattle.tap.proofs.ReadLaws.{reads_most, reads_used, refused_number}
use Rattle.exchange.specs.Exporting.{element_of, elements_from, elements_of, Exported}
use Rattle.exchange_laws.proofs.Due.{refused_keeps}
use Rattle.exchange_laws.proofs.Exchanging.{export_then_import, file_room}
use Rattle.exchange_laws.proofs.Ways.{ImportWay, broken, refused, taken, import_way, ExportWay, bad, short, well, export_way}
use Rattle.tapecard.specs.ExchangeCalls.{export_left, export_call, import_call}
use Rattle.tapecard.specs.PacketCalls.{packet_change, packet_left}
use Rattle.card_laws.specs.Exchanges.{Accepted, ExchangeRefusedUntouched, ImportIsChange, CardExportThenImport}
use Rattle.card_laws.specs.Exchanges.{ExchangeStaysBytes, ExchangeCountsWhole}
use Rattle.card_laws.specs.Promises.{Bytes, CountsIn}
use Rattle.card_laws.proofs.ByteLaws.{four_back}
use Rattle.card_laws.proofs.BytesKept.{All, none, next, bytes_of_lem}
use Rattle.card_laws.proofs.IndexBytes.{all_of, answer_alone}
use Rattle.card_laws.proofs.IndexFollowing.{refused_counts}
use Rattle.card_laws.proofs.PacketBytes.{packet_stays_bytes}

-- ---- refused: untouched

pub exchange_refused_untouched : ExchangeRefusedUntouched
unfolding export_call export_left import_call packet_left encode_answer
exchange_refused_untouched =
    record {
      exported = λ image file n. (refused_keeps.exported image file n).1;
      imported = λ state image file n.
          let r = refused_keeps.imported image (decode_state state) file n in
          rw (ne_eqb _ _ n, r.image_kept, r.buf_kept);
    }

-- ---- accepted: the record of a cartridge change

module _ (state image file : List ℕ) where
  abbrev st : State
  st = decode_state state

  -- a record's bytes after each way: those of a change where the file is taken
  state_after : (P : List ℕ → Type 0) → P (packet_change state) → P state → {x : Left State} → ImportWay image st file x → P (packet_left state x).state
  unfolding packet_left packet_change
  state_after P new old (broken b) = old
  state_after P new old (refused reason g e) = rw (not_zero reason) old
  state_after P new old (taken es used g e) = new

  -- what holds of the record after a change and of the one given holds of the one left
  pub import_by : (P : List ℕ → Type 0) → P (packet_change state) → P state → P (import_call state image file).state
  unfolding import_call
  import_by P new old = state_after P new old (import_way image st file)

  changed_by : {x : Left State} → ImportWay image st file x → Accepted (encode_answer x.answer) → (packet_left state x).state ≡ packet_change state
  unfolding packet_left packet_change encode_answer
  changed_by (broken b) z = absurd (omega arith)
  changed_by (refused reason g e) z = absurd (eqb-false _ _ (not_zero reason) z)
  changed_by (taken es used g e) z = refl

pub import_is_change : ImportIsChange
unfolding import_call packet_left
import_is_change state image file z = changed_by state image file (import_way image (decode_state state) file) z

pub card_export_then_import : CardExportThenImport
unfolding export_call export_left import_call packet_left encode_answer
card_export_then_import image file other state z g q r =
    let x = export_then_import image file other (decode_state state) z g q r in
    (ap (λ (a : Answer). a.number) x.told, x.elements)

-- ---- bytes again

word_all : (w : ℕ) {xs : List ℕ} → All xs → All (word_bytes w ++ xs)
unfolding word_bytes
word_all w a =
    next {x = w % 256} (omega arith)
    (next {x = w / 256 % 256} (omega arith) (next {x = w / 256 / 256 % 256} (omega arith) (next {x = w / 256 / 256 / 256 % 256} (omega arith) a)))

zeros_all : (k : ℕ) {xs : List ℕ} → All xs → All (replicate k 0 ++ xs)
zeros_all zero a = a
zeros_all (suc k) a = next {x = 0} (omega arith) (zeros_all k a)

append_all : (ys : List ℕ) {xs : List ℕ} → All ys → All xs → All (ys ++ xs)
append_all [] none a = a
append_all (y ∷ ys) (next l b) a = next l (append_all ys b a)

-- an element whose bytes are bytes, and each of a list
abbrev Clean : Element → Type 0
Clean TapeMark = Unit {0}
Clean (Block unreadable bytes) = All bytes

abbrev AllClean : List Element → Type 0
AllClean [] = Unit {0}
AllClean (e ∷ es) = Clean e × AllClean es

element_all : (e : Element) → Clean e → {xs : List ℕ} → All xs → All (bytes_of e ++ xs)
unfolding bytes_of record_bytes
element_all TapeMark c a = word_all tape_mark a
element_all (Block unreadable bytes) c {xs} a =
    let w = length bytes + weight_of unreadable high_bit in
    let z = word_all w (append_all bytes c (zeros_all (length bytes % 2) (word_all w a))) in
    simp append_assoc z

file_all : (es : List Element) → AllClean es → {xs : List ℕ} → All xs → All (file_of es ++ xs)
unfolding file_of
file_all [] c a = word_all end_mark a
file_all (e ∷ es) c {xs} a = rw (append_assoc (bytes_of e) (file_of es) xs) (element_all e c.0 (file_all es c.1 a))

take_clean : (n : ℕ) (xs : List ℕ) → All xs → All (take n xs)
take_clean zero xs a = none
take_clean (suc n) [] none = none
take_clean (suc n) (x ∷ xs) (next l a) = next l (take_clean n xs a)

part_clean : (s : List ℕ) (a n : ℕ) → Bytes s → All (part s a n)
part_clean s a n b = take_clean n (drop a s) (all_of (drop a s) (λ i. rw get_or-drop (b (a + i))))

kind_clean : (kind : Kind) (bytes : List ℕ) → All bytes → Clean (element_of kind bytes)
kind_clean Data bytes a = a
kind_clean Filemark bytes a = tt
kind_clean Unreadable bytes a = a
kind_clean Marked bytes a = a

elements_clean : (s : List ℕ) (h : Header) → Bytes s → (n i : ℕ) → AllClean (elements_from s h n i)
unfolding elements_from block_at
elements_clean s h b zero i = tt
elements_clean s h b (suc n) i =
    (kind_clean (kind_at s h.kinds i) _ (part_clean s (h.blocks + i * h.size) h.size b), elements_clean s h b n (i + 1))

file_bytes : (s file : List ℕ) → Bytes s → Bytes file → {x : Exported} → ExportWay s file x → Bytes x.file
unfolding elements_of
file_bytes s file b c (bad e) = c
file_bytes s file b c (short g l) = c
file_bytes s file b c (well g l) =
    let n = length (file_of (elements_of s)) in
    bytes_of_lem (file_all (elements_of s) (elements_clean s (fields_of s) b (fields_of s).recorded 0) (all_of (drop n file) (λ i. rw get_or-drop (c (n + i)))))

export_answered : (s file : List ℕ) {x : Exported} → ExportWay s file x → Bytes (encode_answer x.answer)
export_answered s file (bad e) = answer_alone _ refl
export_answered s file (short g l) = answer_alone _ refl
export_answered s file (well g l) = answer_alone _ refl

import_answered : (state image file : List ℕ) {x : Left State} → ImportWay image (decode_state state) file x → Bytes (encode_answer x.answer)
import_answered state image file (broken b) = answer_alone _ refl
import_answered state image file (refused reason g e) =
    let r = refused_number (fields_of image).size file (fields_of image).capacity 0 reason e in
    answer_alone _ (rw (lt-ltb (number_of reason) 256 (omega arith), not_zero reason) refl)
import_answered state image file (taken es used g e) = answer_alone _ refl

pub exchange_stays_bytes : ExchangeStaysBytes
unfolding export_call export_left import_call packet_left
exchange_stays_bytes =
    record {
      file = λ image file b c. file_bytes image file b c (export_way image file);
      export_answer = λ image file. export_answered image file (export_way image file);
      state = λ state image file b. import_by state image file Bytes (packet_stays_bytes.change state) b;
      import_answer = λ state image file. import_answered state image file (import_way image (decode_state state) file);
    }

-- ---- counts

export_counts : (s file : List ℕ) {x : Exported} → ExportWay s file x → CountsIn (encode_answer x.answer) x.answer
unfolding encode_answer
export_counts s file (bad e) = refused_counts 2
export_counts s file (short g l) = refused_counts 4
export_counts s file (well g l) =
    let x = sound s (fields_of s) (good_header s g) in
    let m = file_room s g in
    let k = mul-le-mul_right ((fields_of s).size + 8) x.recorded_within in
    let c = mul-le-mul_right ((fields_of s).size + 8) x.capacity_most in
    record { blocks = four_back _ (omega arith); bytes = four_back _ (omega arith); marked = refl }

import_counts : (state image file : List ℕ) {x : Left State} → ImportWay image (decode_state state) file x → CountsIn (encode_answer x.answer) x.answer
unfolding encode_answer
import_counts state image file (broken b) = refused_counts 2
import_counts state image file (refused reason g e) = refused_counts (number_of reason)
import_counts state image file (taken es used g e) =
    let x = sound image (fields_of image) (good_header image g) in
    let few = reads_most (fields_of image).size file (fields_of image).capacity 0 in
    let u = reads_used (fields_of image).size file (fields_of image).capacity 0 in
    let m = mul-le-mul_right ((fields_of image).size + 13) x.capacity_most in
    record { blocks = four_back _ (omega (arith, rw e at few)); bytes = four_back _ (omega (arith, rw e at u)); marked = refl }

pub exchange_counts_whole : ExchangeCountsWhole
unfolding export_call export_left import_call packet_left
exchange_counts_whole =
    record {
      exported = λ image file. export_counts image file (export_way image file);
      imported = λ state image file. import_counts state image file (import_way image (decode_state state) file);
    }
