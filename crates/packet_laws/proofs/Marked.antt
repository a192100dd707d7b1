-- Marked blocks through a packet, of any device whose READ counts them.
-- Assumes nothing.
use Rattle.std.specs.Prelude.{Some, if◌then◌else◌}
use Prim.Native.Nat.{ℕ, zero, suc, ◌+◌, ◌-◌, ◌≤◌}
use native.Mathlib.Omega.{arith}
use mathlib.Core.Bool.{not}
use mathlib.Core.List.{List}
use mathlib.Core.Path.{◌≡◌, refl, sym, ap, ◌∙◌}
use borrow.Author.Tests.{eqb-true}
use lib.Dec.{eqb}
use lib.ListN.{length, get_or}
use Rattle.numbers.specs.Over.{part}
use Rattle.numbers.proofs.Cases.{test, either}
use Rattle.numbers.proofs.OverLaws.{part_first}
use Rattle.image.specs.declared.header.Header.{Header}
use Rattle.image.specs.Elements.{kind_of, kind_at}
use Rattle.image.specs.Header.{fields_of, header_of}
use Rattle.image.proofs.HeaderLaws.{sound}
use Rattle.opcodes.specs.declared.Command.TheVariants.{Read}
use Rattle.transfer.specs.declared.Moved.{Moved}
use Rattle.transfer.specs.Marked.{marked_in, marked_from}
use Rattle.transfer.specs.Reading.{read_from}
use Rattle.transfer.proofs.ReadLaws.{read-few}
use Rattle.packet_state.specs.Answers.{Ending}
use Rattle.packet_state.specs.declared.state.Outcome.{Outcome}
use Rattle.packet_state.specs.declared.state.State.{State}
use Rattle.packet_state.specs.declared.state.Told.{Told}
use Rattle.packet_parts.specs.declared.requests.Request.{Request}
use Rattle.packet_parts.specs.Answers.{Left}
use Rattle.packet_parts.specs.Shell.{Device, carried_out, answers_to}
use Rattle.packet_work.specs.Moving.{read_moves}
use Rattle.packet_work.specs.Settings.{good_list, speed_work}
use Rattle.packet_laws.specs.Promises.{MarkedCounted}
use Rattle.packet_laws.specs.Words.{blocks_of, marked_of, marked_among, Passes, Begins, Working}
use Rattle.packet_laws.proofs.Endings.{ends_is, ends_unmarked}
use Rattle.packet_laws.proofs.Refusals.{begins-passes, begins-work, works_begins}
use Rattle.packet_laws.proofs.Ways.{Way, cut, broken, unruly, short, ends-early, works, way}

-- ---- marked elements by the bytes of the kind table

-- the marked kind is 4 alone
marked_is_four : (x : ℕ) → marked_in (kind_of x) ≡ (if eqb x 4 then 1 else 0)
unfolding kind_of
marked_is_four x =
    test (eqb x 1) (λ e. let z = eqb-true x 1 e in rw z refl)
    (λ e. test (eqb x 2) (λ f. let z = eqb-true x 2 f in rw z refl) (λ f. rw (e, f) (test (eqb x 4) (λ g. rw g refl) (λ g. rw g refl))))

pub marked_bytes : (s : List ℕ) (kinds n p : ℕ) → kinds + (p + n) ≤ length s → marked_from s kinds n p ≡ marked_among (part s (kinds + p) n)
unfolding marked_from kind_at
marked_bytes s kinds zero p l = refl
marked_bytes s kinds (suc n) p l =
    let y : kinds + p + 1 ≡ kinds + (p + 1) = omega arith in
    let one = marked_is_four (get_or s (kinds + p) 0) in
    let rest = marked_bytes s kinds n (p + 1) (omega arith) in
    rw (part_first s (kinds + p) n (omega arith), y, one, rest)

-- ---- what READ tells, up to any end within the capacity

module _ (s : List ℕ) (h : Header) (end : ℕ) (st : State) (asked : ℕ) (buf : List ℕ) (e : Ending) where
  abbrev moved : Moved
  moved = (read_from s h.size h.kinds h.blocks end asked 0 st.position buf).moved

  abbrev told : Told
  told = (read_moves s h.kinds st asked h.size moved e).answer

  blocks_told : told.blocks ≡ asked - moved.left
  blocks_told = ap (λ (x : Outcome State). x.answer.blocks) (ends_is _ e _ _)

  pub read_counts : told.marked ≡ marked_from s h.kinds told.blocks st.position
  read_counts = ap (λ (k : ℕ). marked_from s h.kinds k st.position) (sym blocks_told)

  pub read_within : header_of s ≡ Some h → end ≤ h.capacity → st.position ≤ end → h.kinds + (st.position + told.blocks) ≤ length s
  read_within good inside place =
      let g = sound s h good in
      let f = read-few s h.size h.kinds h.blocks end asked 0 st.position buf place in
      omega (arith, blocks_told)

-- ---- 15h with a list of 32 bytes tells of no marked block, be the list good or wrong

pub speed_unmarked : (st : State) (list : List ℕ) → (speed_work st list).answer.marked ≡ 0
unfolding speed_work
speed_unmarked st list =
    either (λ (x : Outcome State). x.answer.marked ≡ 0) (not (good_list list)) _ _ (λ e. ends_unmarked _ _ _ _) (λ e. ends_unmarked _ _ _ _)

-- ---- a device whose READ counts the marked blocks that it copies, all of which are in the image, and whose other work tells of none

pub record CountsMarked {R : Type 0} (d : Device R) : Type 0 where
  pub within : (s : List ℕ) (st : R) (packet buf : List ℕ) → Passes d s st packet buf → (d.request packet).command ≡ Read
      → (fields_of s).kinds + ((d.shared st).position + blocks_of (d.work s (fields_of s) st (d.request packet) buf)) ≤ length s
  pub counts : (s : List ℕ) (h : Header) (st : R) (q : Request) (buf : List ℕ) → q.command ≡ Read
      → marked_of (d.work s h st q buf) ≡ marked_from s h.kinds (blocks_of (d.work s h st q buf)) (d.shared st).position
  pub others : (s : List ℕ) (h : Header) (st : R) (q : Request) (buf : List ℕ) → (q.command ≡ Read → ⊥) → marked_of (d.work s h st q buf) ≡ 0

-- ---- any packet

module _ {R : Type 0} (d : Device R) (marks : CountsMarked d) (s : List ℕ) (st : R) (packet buf : List ℕ) where
  counted : Begins d s st packet buf → (d.request packet).command ≡ Read
      → marked_of (answers_to d s st packet buf)
      ≡ marked_among (part s ((fields_of s).kinds + (d.shared st).position) (blocks_of (answers_to d s st packet buf)))
  counted b e =
      let l = marks.within s st packet buf (begins-passes d s st packet buf b) e in
      rw (begins-work d s st packet buf b) (marks.counts s (fields_of s) st (d.request packet) buf e ∙ marked_bytes s (fields_of s).kinds _ _ l)

  none : Working d → {x : Left R} → Way d s st packet buf x → (Begins d s st packet buf → (d.request packet).command ≡ Read → ⊥) → marked_of x ≡ 0
  unfolding carried_out
  none working (cut n) f = refl
  none working (broken t b) f = refl
  none working (unruly t g b) f = refl
  none working (short p e l) f = refl
  none working (ends-early p x e k) f = refl
  none working (works p e l) f =
      marks.others s (fields_of s) st (d.request packet) buf (f (works_begins d working s st packet buf p e l))

module _ {R : Type 0} (d : Device R) (working : Working d) (marks : CountsMarked d) where
  pub marked_counted : MarkedCounted d
  marked_counted =
      record {
        counted = λ s st packet buf b e. counted d marks s st packet buf b e;
        none = λ s st packet buf f. none d marks s st packet buf working (way d s st packet buf) f;
      }
