-- There and back: export then import, import then export, what an import leaves and what is read of it, and the length of an export.
-- Assumes nothing.
use Prim.Native.Nat.{ℕ, ◌+◌, ◌*◌, ◌<◌, ◌≤◌}
use native.Mathlib.Omega.{arith}
use mathlib.Core.Bool.{true, false}
use mathlib.Core.List.{List, [], ◌++◌}
use mathlib.Core.Path.{◌≡◌, refl, sym, ap, ◌∙◌}
use borrow.Author.Tests.{le-ltb}
use lib.ListN.{length, get_or, drop}
use lib.Seq.{ext_get_or}
use Rattle.numbers.specs.Over.{over}
use Rattle.image.specs.declared.elements.Kind.TheVariants.{Data}
use Rattle.image.specs.declared.header.Header.{Header}
use Rattle.image.specs.Elements.{kind_of, kind_at, block_at, is_filemark}
use Rattle.image.specs.Header.{fields_of, keeps_header_rules, with_recorded}
use Rattle.image.specs.Sameness.{IsBlockOf}
use Rattle.image.proofs.HeaderLaws.{sound, fields_are, keeps_of, good_header, is_block_of}
use Rattle.packet_state.specs.declared.state.State.{State}
use Rattle.packet_parts.specs.Answers.{Left, answered, good_status}
use Rattle.packet_laws.specs.Words.{number_of}
use Rattle.tap.specs.Files.{Element, TapeMark, Block, AllWhole, Holds, elements_in, file_of}
use Rattle.tap.proofs.FormatLaws.{reads_file}
use Rattle.tap.proofs.ReadLaws.{reads_most, reads_whole, refused_number}
use Rattle.exchange.specs.Exporting.{element_at, elements_from, elements_of, Exported, exported, exports}
use Rattle.exchange.specs.Importing.{taken_into, imports_as, imports}
use Rattle.exchange_laws.specs.Demands.{ExportThenImport, ImportThenExport, ImportLeaves, ImportReads, ExportLength}
use Rattle.exchange.proofs.LayLaws.{kind_stored}
use Rattle.exchange_laws.specs.Words.{found, kind_back}
use Rattle.exchange_laws.proofs.Elements.{stored_back, bytes_in, bytes_in_lem, same_kind, elements_length, elements_nth, elements_whole}
use Rattle.exchange_laws.proofs.Elements.{marks_and_blocks, file_takes, file_most}
use Rattle.exchange_laws.proofs.Storing.{Stored, stored, outside_kept, under-kept}
use Rattle.exchange_laws.proofs.Ways.{reading, taking, ImportWay, broken, refused, taken, import_way, ExportWay, bad, short, well, export_way}

-- ---- an import that is accepted

-- the elements found are taken
record Taking (s : List ℕ) (st : State) (file : List ℕ) (x : Left State) : Type 0 where
  good : keeps_header_rules s ≡ true
  used : ℕ
  held : reading s file ≡ Holds (found s file) used
  is : x ≡ taking s st file (found s file) used

module _ (s : List ℕ) (st : State) (file : List ℕ) where
  taking_by : {x : Left State} → ImportWay s st file x → number_of x ≡ 0 → Taking s st file x
  taking_by (broken b) z = absurd (omega arith)
  taking_by (refused reason g e) z = absurd (omega (arith, refused_number (fields_of s).size file (fields_of s).capacity 0 reason e))
  taking_by (taken es used g e) z =
      let q : es ≡ found s file = sym (ap elements_in e) in
      record { good = g; used = used; held = rw (← q) e; is = rw q refl }

  whole : AllWhole (fields_of s).size (found s file)
  whole = reads_whole (fields_of s).size file (fields_of s).capacity 0

  fits : length (found s file) ≤ (fields_of s).capacity
  fits = reads_most (fields_of s).size file (fields_of s).capacity 0

  module _ (g : keeps_header_rules s ≡ true) where
    abbrev image : List ℕ
    image = taken_into (fields_of s) (found s file) s

    image-is : Stored s (fields_of s) (found s file) image
    image-is = stored s (fields_of s) (good_header s g) (found s file) whole fits

-- the elements of an image in which elements were stored
stored_elements : (s : List ℕ) (h : Header) (es : List Element) (t : List ℕ) → Stored s h es t → elements_of t ≡ es
unfolding elements_of
stored_elements s h es t x =
    let h' = with_recorded h (length es) in
    let n = elements_length t h' (length es) 0 in
    rw (fields_are t h' x.header)
    (ext_get_or TapeMark (elements_from t h' (length es) 0) es n (λ i l.
    let y : 0 + i ≡ i = omega arith in
    let k : i < length es = omega (arith, l, n) in
    elements_nth t h' (length es) 0 i k ∙ rw y (x.here i k)))

-- ---- what an import leaves

pub import_leaves : ImportLeaves
import_leaves s st file z =
    let t = taking_by s st file (import_way s st file) z in
    let h = fields_of s in
    let g = good_header s t.good in
    let es = found s file in
    let x = image-is s st file t.good in
    rw t.is
    (record {
      header = x.header;
      size = x.size;
      outside = outside_kept s h g es (whole s st file) (fits s st file);
      under_marks = under-kept s h g es (whole s st file) (fits s st file);
      record_is = refl;
      file_kept = refl;
    })

-- a block of an image in which elements were stored
stored_block : (s : List ℕ) (h : Header) (es : List Element) (t : List ℕ) → Stored s h es t → (i : ℕ) (bytes : List ℕ) → i < length es
    → get_or es i TapeMark ≡ Block false bytes → IsBlockOf Data (fields_of t).recorded t i bytes
unfolding kind_at kind_of
stored_block s h es t x i bytes l e =
    let h' = with_recorded h (length es) in
    let k : kind_at t h.kinds i ≡ Data = rw (x.bytes i l, e) refl in
    let b = ap bytes_in (rw k at (x.here i l) ∙ e) in
    is_block_of Data refl (fields_of t).recorded t h' i bytes x.header (rw (fields_are t h' x.header) l) k b

pub import_reads : ImportReads
import_reads s st file i bytes z l e =
    let t = taking_by s st file (import_way s st file) z in
    rw t.is (stored_block s (fields_of s) (found s file) _ (image-is s st file t.good) i bytes l e)

-- ---- an export that is accepted

record Writing (s file : List ℕ) (x : Exported) : Type 0 where
  good : keeps_header_rules s ≡ true
  is : x ≡ exported (answered good_status (fields_of s).recorded (length (file_of (elements_of s)))) (over file 0 (file_of (elements_of s)))

module _ (s file : List ℕ) where
  writing_by : {x : Exported} → ExportWay s file x → x.answer.number ≡ 0 → Writing s file x
  writing_by (bad b) z = absurd (omega arith)
  writing_by (short g l) z = absurd (omega arith)
  writing_by (well g l) z = record { good = g; is = refl }

  exports_well : keeps_header_rules s ≡ true → length (file_of (elements_of s)) ≤ length file
      → exports s file ≡ exported (answered good_status (fields_of s).recorded (length (file_of (elements_of s)))) (over file 0 (file_of (elements_of s)))
  unfolding exports
  exports_well g l = rw (g, le-ltb (length file) (length (file_of (elements_of s))) l) refl

module _ (s : List ℕ) where
  count : length (elements_of s) ≡ (fields_of s).recorded
  unfolding elements_of
  count = elements_length s (fields_of s) (fields_of s).recorded 0

  all_whole : keeps_header_rules s ≡ true → AllWhole (fields_of s).size (elements_of s)
  unfolding elements_of
  all_whole g =
      let x = sound s (fields_of s) (good_header s g) in
      elements_whole s (fields_of s) (good_header s g) (fields_of s).recorded 0 (omega arith)

  nth : (i : ℕ) → i < (fields_of s).recorded → get_or (elements_of s) i TapeMark ≡ element_at s (fields_of s) i
  unfolding elements_of
  nth i l = let y : 0 + i ≡ i = omega arith in rw y at (elements_nth s (fields_of s) (fields_of s).recorded 0 i l)

  -- the buffer that is long enough for any
  pub file_room : keeps_header_rules s ≡ true → length (file_of (elements_of s)) ≤ 4 + (fields_of s).recorded * ((fields_of s).size + 8)
  file_room g =
      let x = sound s (fields_of s) (good_header s g) in
      rw count at (file_most (fields_of s).size x.size_even (elements_of s) (all_whole g))

pub export_length : ExportLength
export_length =
    record {
      told = λ s file z.
          let w = writing_by s file (export_way s file) z in
          let x = sound s (fields_of s) (good_header s w.good) in
          rw w.is (file_takes (fields_of s).size x.size_even (elements_of s) (all_whole s w.good));
      parts = λ s. marks_and_blocks (elements_of s) ∙ count s;
      enough = λ s file g l.
          let b : length (file_of (elements_of s)) ≤ length file = omega (arith, l, file_room s g) in
          rw (exports_well s file g b) refl;
    }

-- ---- there and back

-- a file of elements, whatever follows its end mark, is taken
module _ (s : List ℕ) (g : keeps_header_rules s ≡ true) (es : List Element) (rest : List ℕ) (w : AllWhole (fields_of s).size es)
    (l : length es ≤ (fields_of s).capacity) where
  file_held : reading s (file_of es ++ rest) ≡ Holds es (length (file_of es))
  file_held =
      let x = sound s (fields_of s) (good_header s g) in
      let y : 0 + length (file_of es) ≡ length (file_of es) = omega arith in
      rw y at (reads_file (fields_of s).size (omega arith) (omega arith) es [] rest (fields_of s).capacity w l)

  file_taken : (st : State) → imports s st (file_of es ++ rest) ≡ taking s st (file_of es ++ rest) es (length (file_of es))
  unfolding imports imports_as
  file_taken st = rw (g, file_held) refl

  file_stored : Stored s (fields_of s) es (taken_into (fields_of s) es s)
  file_stored = stored s (fields_of s) (good_header s g) es w l

pub import_then_export : ImportThenExport
import_then_export =
    record {
      elements = λ s st file z.
          let t = taking_by s st file (import_way s st file) z in
          rw t.is (stored_elements s (fields_of s) (found s file) _ (image-is s st file t.good));
      bytes = λ s st es rest buf g w l b.
          let i = file_taken s g es rest w l st in
          let x = file_stored s g es rest w l in
          let t = taken_into (fields_of s) es s in
          let h = with_recorded (fields_of s) (length es) in
          let e = stored_elements s (fields_of s) es t x in
          let k = keeps_of t h x.header in
          let f = fields_are t h x.header in
          let y = rw (e, f) at (exports_well t buf k (rw e b)) in
          rw i (refl, y);
    }

-- the image t with the elements of s
module _ (s t : List ℕ) (g : keeps_header_rules s ≡ true) (x : Stored t (fields_of t) (elements_of s) (taken_into (fields_of t) (elements_of s) t)) where
  abbrev u : ℕ
  u = (fields_of s).recorded

  abbrev left : List ℕ
  left = taken_into (fields_of t) (elements_of s) t

  kind_comes : (i : ℕ) → i < u → get_or left ((fields_of t).kinds + i) 0 ≡ kind_back (kind_at s (fields_of s).kinds i)
  kind_comes i l =
      x.bytes i (rw (count s) l) ∙ ap kind_stored (nth s i l)
      ∙ stored_back (kind_at s (fields_of s).kinds i) (block_at s (fields_of s).size (fields_of s).blocks i)

  block_comes : (i : ℕ) → i < u → is_filemark (kind_at s (fields_of s).kinds i) ≡ false
      → block_at left (fields_of t).size (fields_of t).blocks i ≡ block_at s (fields_of s).size (fields_of s).blocks i
  block_comes i l n =
      let a = bytes_in_lem (kind_at s (fields_of s).kinds i) (block_at s (fields_of s).size (fields_of s).blocks i) n in
      let e = x.here i (rw (count s) l) ∙ nth s i l in
      let m = same_kind (kind_at s (fields_of s).kinds i) (kind_at left (fields_of t).kinds i) _ _ e n in
      sym (bytes_in_lem (kind_at left (fields_of t).kinds i) (block_at left (fields_of t).size (fields_of t).blocks i) m) ∙ ap bytes_in e ∙ a

pub export_then_import : ExportThenImport
export_then_import s file t st z g q r =
    let w = writing_by s file (export_way s file) z in
    let es = elements_of s in
    let rest = drop (length (file_of es)) file in
    let a : AllWhole (fields_of t).size es = rw q (all_whole s w.good) in
    let l : length es ≤ (fields_of t).capacity = rw (count s) r in
    let i = file_taken t g es rest a l st in
    let x = file_stored t g es rest a l in
    rw (w.is, i)
    (record {
      told = rw (count s) refl;
      elements = stored_elements t (fields_of t) es _ x;
      header = rw (count s) at x.header;
      kinds = kind_comes s t w.good x;
      blocks = block_comes s t w.good x;
      beyond = λ j b c. x.others j (rw (count s) b) c;
    })
