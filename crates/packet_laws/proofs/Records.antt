-- What the work of a command leaves of the shared record, and what a packet does.
-- Assumes nothing.
use Prim.Native.Nat.{ℕ}
use mathlib.Core.Bool.{Bool, true, false, not}
use mathlib.Core.List.{List}
use mathlib.Core.Path.{◌≡◌, refl}
use Rattle.numbers.proofs.Cases.{test}
use Rattle.image.specs.declared.header.Header.{Header}
use Rattle.image.specs.Header.{fields_of}
use Rattle.opcodes.specs.declared.Command.{Command}
use Rattle.opcodes.specs.declared.Command.TheVariants.{ModeSelect, LoadUnload, PreventAllow}
use Rattle.packet_state.specs.Answers.{Ending}
use Rattle.packet_state.specs.declared.state.Sense.{Sense}
use Rattle.packet_state.specs.declared.state.State.{State}
use Rattle.packet_parts.specs.declared.requests.Request.{Request}
use Rattle.packet_parts.specs.Answers.{Left, ends, ended_before}
use Rattle.packet_parts.specs.Replies.{full_list}
use Rattle.packet_parts.specs.Requests.{load_bit, prevent_bit}
use Rattle.packet_parts.specs.Shell.{Device, carried_out, answers_to}
use Rattle.packet_work.specs.Settings.{good_list, speed_work, load_work, lock_work}
use Rattle.packet_laws.specs.Words.{Begins, Working}
use Rattle.packet_laws.proofs.Endings.{ends_is}
use Rattle.packet_laws.proofs.Refusals.{works_begins}
use Rattle.packet_laws.proofs.Ways.{Way, cut, broken, unruly, short, ends-early, works, way}

-- ---- the work

-- only 15h with a good list of 32 bytes sets the speed, only 1Bh with the load bit clear unloads, and only 1Eh with the other bit turns the lock
pub record Keeps (c : Command) (q : Request) (buf : List ℕ) (st next : State) : Type 0 where
  pub speed : (c ≡ ModeSelect → q.length ≡ full_list → good_list buf ≡ true → ⊥) → next.speed ≡ st.speed
  pub loaded : (c ≡ LoadUnload → load_bit q ≡ false → ⊥) → st.loaded ≡ true → next.loaded ≡ true
  pub locked : (c ≡ PreventAllow → prevent_bit q ≡ not st.locked → ⊥) → next.locked ≡ st.locked

module _ {c : Command} {q : Request} {buf : List ℕ} {st : State} where
  -- an ending has a sense of its own, and all else of the record that it is told
  pub ends_keeps : (next : State) (e : Ending) (blocks bytes : ℕ) → Keeps c q buf st next → Keeps c q buf st (ends next e blocks bytes).state
  ends_keeps next e blocks bytes k = rw ends_is (record { speed = k.speed; loaded = k.loaded; locked = k.locked })

  -- what only moves
  pub moved : (next : State) (e : Ending) (blocks bytes : ℕ) → next.speed ≡ st.speed → next.loaded ≡ st.loaded → next.locked ≡ st.locked
      → Keeps c q buf st (ends next e blocks bytes).state
  moved next e blocks bytes s l k = ends_keeps next e blocks bytes (record { speed = λ n. s; loaded = λ n t. rw l t; locked = λ n. k })

pub speed_keeps : (q : Request) (buf : List ℕ) (st : State) → q.length ≡ full_list → Keeps ModeSelect q buf st (speed_work st buf).state
unfolding speed_work
speed_keeps q buf st l =
    test (good_list buf)
    (λ g. rw g (ends_keeps _ _ _ _ (record { speed = λ n. absurd (n refl l g); loaded = λ n e. e; locked = λ n. refl })))
    (λ g. rw g (moved _ _ _ _ refl refl refl))

-- a bit that is not clear is set
pub not_clear : (bit : Bool) → (bit ≡ false → ⊥) → bit ≡ true
not_clear true n = refl
not_clear false n = absurd (n refl)

turned : (a b : Bool) → (a ≡ not b → ⊥) → a ≡ b
turned true true n = refl
turned true false n = absurd (n refl)
turned false true n = absurd (n refl)
turned false false n = refl

pub load_keeps : (q : Request) (buf : List ℕ) (st : State) → Keeps LoadUnload q buf st (load_work st (load_bit q)).state
unfolding load_work
load_keeps q buf st =
    ends_keeps _ _ _ _ (record { speed = λ n. refl; loaded = λ n e. not_clear (load_bit q) (n refl); locked = λ n. refl })

pub lock_keeps : (q : Request) (buf : List ℕ) (st : State) → Keeps PreventAllow q buf st (lock_work st (prevent_bit q)).state
unfolding lock_work
lock_keeps q buf st =
    ends_keeps _ _ _ _ (record { speed = λ n. refl; loaded = λ n e. e; locked = λ n. turned (prevent_bit q) st.locked (n refl) })

-- ---- a device whose work does so

pub record KeepsRecord {R : Type 0} (d : Device R) : Type 0 where
  pub shares : (st : R) (x : State) → d.shared (d.with_shared st x) ≡ x
  pub keeps : (s : List ℕ) (h : Header) (st : R) (q : Request) (buf : List ℕ)
      → Keeps q.command q buf (d.shared st) (d.shared (d.work s h st q buf).state)

-- ---- any packet

-- P holds of what a packet leaves of the shared record where it holds of the record as it was, with another sense and no attention, and after the work
module _ {R : Type 0} (d : Device R) (working : Working d) (keeps : KeepsRecord d) (s : List ℕ) (st : R) (packet buf : List ℕ)
    (P : State → Type 0) (was : P (d.shared st)) (early : (x : Sense) → P (ended_before (d.shared st) x))
    (worked : Begins d s st packet buf → P (d.shared (d.work s (fields_of s) st (d.request packet) buf).state)) where
  by_way : {x : Left R} → Way d s st packet buf x → P (d.shared x.state)
  unfolding carried_out
  by_way (cut n) = was
  by_way (broken t b) = was
  by_way (unruly t g b) = was
  by_way (short p e l) = was
  by_way (ends-early p x e k) = rw (keeps.shares st (ended_before (d.shared st) x)) (early x)
  by_way (works p e l) = worked (works_begins d working s st packet buf p e l)

  pub packet_keeps : P (d.shared (answers_to d s st packet buf).state)
  packet_keeps = by_way (way d s st packet buf)
