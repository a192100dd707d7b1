-- The lock through a packet, of any device that has it.
-- Assumes nothing.
use Rattle.std.specs.Prelude.{if◌then◌else◌}
use Prim.Native.Nat.{ℕ, ◌+◌}
use native.Mathlib.Omega.{arith}
use mathlib.Core.Bool.{Bool, true, false, not}
use mathlib.Core.List.{List}
use mathlib.Core.Path.{◌≡◌, refl, ap, ◌∙◌}
use borrow.Author.Tests.{le-ltb}
use lib.ListN.{length, get_or}
use Rattle.numbers.proofs.Cases.{never}
use Rattle.image.specs.declared.header.Header.{Header}
use Rattle.image.specs.Header.{fields_of}
use Rattle.opcodes.specs.declared.Command.TheVariants.{LoadUnload, PreventAllow}
use Rattle.packet_state.specs.declared.state.Attention.TheVariants.{Nothing}
use Rattle.packet_state.specs.declared.state.State.{State}
use Rattle.packet_state.specs.declared.state.Verdict.TheVariants.{Ends, Works}
use Rattle.packet_state.specs.Senses.{no_sense, removal_prevented}
use Rattle.packet_state.specs.States.{at_place, with_loaded, with_locked, with_sense}
use Rattle.packet_parts.specs.declared.requests.Request.{Request}
use Rattle.packet_parts.specs.declared.verdicts.Asked.{Asked}
use Rattle.packet_parts.specs.Answers.{good_status, check_condition}
use Rattle.packet_parts.specs.Replies.{short_list, door_byte}
use Rattle.packet_parts.specs.Requests.{load_bit, prevent_bit}
use Rattle.packet_parts.specs.Shell.{Device, carried_out, found_by, answers_to}
use Rattle.packet_parts.specs.Verdicts.{settings, loading, found_first, verdict_by}
use Rattle.packet_laws.specs.Promises.{LockFollows, LockedStays}
use Rattle.packet_laws.specs.Words.{Begins, AsksDoor, Unloads, Locks, leaves_only, Working}
use Rattle.packet_laws.proofs.Pages.{GivesPage, page_at}
use Rattle.packet_laws.proofs.Records.{KeepsRecord, packet_keeps}
use Rattle.packet_laws.proofs.Refusals.{begins-unended}
use Rattle.packet_laws.proofs.Ways.{carried, unended_door, step_passed}

-- ---- a device that has the lock

-- what it asks for 1Eh and for an unload, that nothing else unloads, what it does with the two, and its page 2Ah
pub record LocksDoor {R : Type 0} (d : Device R) : Type 0 where
  pub page : GivesPage d
  pub stays : KeepsRecord d
  pub asks_lock : (h : Header) (st : R) (q : Request) → q.command ≡ PreventAllow → d.asks h st q ≡ settings false false 0
  pub asks_unload : (h : Header) (st : R) (q : Request) → q.command ≡ LoadUnload → load_bit q ≡ false → d.asks h st q ≡ loading false true
  pub asks_else : (h : Header) (st : R) (q : Request) → (q.command ≡ LoadUnload → load_bit q ≡ false → ⊥) → (d.asks h st q).unloads ≡ false
  pub asks_same : (h : Header) (st : R) (x : State) (q : Request) → d.asks h (d.with_shared st x) q ≡ d.asks h st q
  pub locks : (s : List ℕ) (st : R) (packet buf : List ℕ) → (d.request packet).command ≡ PreventAllow
      → d.work s (fields_of s) st (d.request packet) buf
      ≡ leaves_only d s st packet buf good_status (with_sense (with_locked (d.shared st) (prevent_bit (d.request packet))) no_sense)
  pub unloads : (s : List ℕ) (st : R) (packet buf : List ℕ) → (d.request packet).command ≡ LoadUnload → load_bit (d.request packet) ≡ false
      → d.work s (fields_of s) st (d.request packet) buf
      ≡ leaves_only d s st packet buf good_status (with_sense (with_loaded (at_place (d.shared st) 0) false) no_sense)

-- ---- what is found before the work

module _ (protected : Bool) (st : State) (room : ℕ) (attended : st.attention ≡ Nothing) where
  lock_found : verdict_by (settings false false 0) protected st room ≡ Works
  unfolding verdict_by found_first
  lock_found = rw (attended, le-ltb room 0 (omega arith))

  unload_stopped : st.locked ≡ true → verdict_by (loading false true) protected st room ≡ Ends removal_prevented
  unfolding verdict_by found_first
  unload_stopped e = rw (attended, e)

  unload_found : st.locked ≡ false → verdict_by (loading false true) protected st room ≡ Works
  unfolding verdict_by found_first
  unload_found e = rw (attended, e, le-ltb room 0 (omega arith))

-- what does not unload is not asked for the lock
unasked : (a : Asked) (protected locked : Bool) (st : State) (room : ℕ) → a.unloads ≡ false
    → verdict_by a protected (with_locked st locked) room ≡ verdict_by a protected st room
unfolding verdict_by
unasked a protected locked st room e = rw e

shown : (locked : Bool) → door_byte locked ≡ (if locked then 0x0b else 0x09)
shown true = refl
shown false = refl

-- ---- any packet

module _ {R : Type 0} (d : Device R) (door : LocksDoor d) (s : List ℕ) (st : R) (packet buf : List ℕ) where
  set : Locks d s st packet buf
      → answers_to d s st packet buf
      ≡ leaves_only d s st packet buf good_status (with_sense (with_locked (d.shared st) (prevent_bit (d.request packet))) no_sense)
  unfolding carried_out
  set l =
      step_passed d s st packet buf l.passes
      ∙ rw (door.asks_lock (fields_of s) st (d.request packet) l.prevent_allow, lock_found _ (d.shared st) (length buf) l.attended)
      (door.locks s st packet buf l.prevent_allow)

  told : AsksDoor d s st packet buf → get_or (answers_to d s st packet buf).buf (short_list + 6) 0 ≡ (if (d.shared st).locked then 0x0b else 0x09)
  told t = page_at d door.page s st packet buf t (short_list + 6) (omega arith) (omega arith) ∙ shown (d.shared st).locked

  module _ (u : Unloads d s st packet buf) where
    asked : d.asks (fields_of s) st (d.request packet) ≡ loading false true
    asked = door.asks_unload (fields_of s) st (d.request packet) u.load_unload u.load_clear

    stopped : (d.shared st).attention ≡ Nothing
        → carried d s st packet buf (Ends removal_prevented) ≡ leaves_only d s st packet buf check_condition (with_sense (d.shared st) removal_prevented)
    unfolding carried_out
    stopped a = rw a

    prevented : (d.shared st).locked ≡ true
        → answers_to d s st packet buf ≡ leaves_only d s st packet buf check_condition (with_sense (d.shared st) removal_prevented)
    prevented e =
        step_passed d s st packet buf u.passes
        ∙ rw (asked, unload_stopped _ (d.shared st) (length buf) u.attended e) (stopped u.attended)

    opened : (d.shared st).locked ≡ false
        → answers_to d s st packet buf ≡ leaves_only d s st packet buf good_status (with_sense (with_loaded (at_place (d.shared st) 0) false) no_sense)
    unfolding carried_out
    opened e =
        step_passed d s st packet buf u.passes
        ∙ rw (asked, unload_found _ (d.shared st) (length buf) u.attended e) (door.unloads s st packet buf u.load_unload u.load_clear)

  -- an unload of a locked drive does not begin
  no_unload : Begins d s st packet buf → (d.shared st).locked ≡ true → (d.request packet).command ≡ LoadUnload
      → load_bit (d.request packet) ≡ false → ⊥
  no_unload b e c l =
      let open-door = unended_door d s st packet buf (begins-unended d s st packet buf b) in
      never refl (rw (door.asks_unload (fields_of s) st (d.request packet) c l, e) at open-door)

  others : (locked : Bool) → ((d.request packet).command ≡ LoadUnload → load_bit (d.request packet) ≡ false → ⊥)
      → found_by d (fields_of s) (d.with_shared st (with_locked (d.shared st) locked)) (d.request packet) (length buf)
      ≡ found_by d (fields_of s) st (d.request packet) (length buf)
  others locked n =
      rw (door.asks_same (fields_of s) st (with_locked (d.shared st) locked) (d.request packet), door.stays.shares st (with_locked (d.shared st) locked))
      (unasked _ _ locked (d.shared st) (length buf) (door.asks_else (fields_of s) st (d.request packet) n))

  module _ (working : Working d) where
    -- the flag turns by 1Eh with the other bit alone
    unturned : (Begins d s st packet buf → (d.request packet).command ≡ PreventAllow → prevent_bit (d.request packet) ≡ not (d.shared st).locked → ⊥)
        → (d.shared (answers_to d s st packet buf).state).locked ≡ (d.shared st).locked
    unturned f =
        packet_keeps d working door.stays s st packet buf (λ x. x.locked ≡ (d.shared st).locked) refl (λ x. refl) (λ b.
        (door.stays.keeps s (fields_of s) st (d.request packet) buf).locked (f b))

    loaded : (d.shared st).locked ≡ true → (d.shared st).loaded ≡ true → (d.shared (answers_to d s st packet buf).state).loaded ≡ true
    loaded e l =
        packet_keeps d working door.stays s st packet buf (λ x. x.loaded ≡ true) l (λ x. l) (λ b.
        (door.stays.keeps s (fields_of s) st (d.request packet) buf).loaded (no_unload b e) l)

module _ {R : Type 0} (d : Device R) (working : Working d) (door : LocksDoor d) where
  pub lock_follows : LockFollows d
  lock_follows =
      record {
        set = λ s st packet buf l. set d door s st packet buf l;
        kept = λ s st packet buf f. unturned d door s st packet buf working (λ b c e. f b c);
        told = λ s st packet buf t. told d door s st packet buf t;
      }

  pub locked_stays : LockedStays d
  locked_stays =
      record {
        locked = λ s st packet buf e f. unturned d door s st packet buf working (λ b c p. f b c (p ∙ ap not e)) ∙ e;
        loaded = λ s st packet buf e l. loaded d door s st packet buf working e l;
        prevented = λ s st packet buf u e. prevented d door s st packet buf u e;
        opened = λ s st packet buf u e. opened d door s st packet buf u e;
        others = λ s st packet buf locked n. others d door s st packet buf locked n;
      }
