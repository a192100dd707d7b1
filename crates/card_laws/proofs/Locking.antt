-- The lock on the bytes that a call leaves: they spell what the engine left.
-- Assumes nothing.
use mathlib.Core.Bool.{true, false}
use mathlib.Core.List.{List}
use mathlib.Core.Path.{◌≡◌, refl, ap, ◌∙◌}
use Prim.Native.Nat.{ℕ}
use lib.Dec.{eqb}
use lib.ListN.{get_or}
use Rattle.opcodes.specs.declared.Command.{Command}
use Rattle.opcodes.specs.declared.Command.TheVariants.{PreventAllow}
use Rattle.opcodes.specs.Commands.{Supported, stream_commands, floppy_commands, look_up, stream_command, floppy_command}
use Rattle.opcodes.proofs.Classes.{class_of, under, only_under}
use Rattle.packet_state.specs.declared.state.State.{State}
use Rattle.packet_parts.specs.Answers.{Left}
use Rattle.packet_parts.specs.Requests.{request_under, prevent_bit}
use Rattle.packet_record.specs.PacketRecord.{decode_state}
use Rattle.stream_parts.specs.Requests.{request_of}
use Rattle.floppy_parts.specs.declared.tape.Floppy.{Floppy}
use Rattle.floppy_parts.specs.Requests.{floppy_request}
use Rattle.floppy_record.specs.FloppyRecord.{decode_floppy}
use Rattle.tapecard.specs.FloppyCalls.{floppy_change_call, floppy_packet_call}
use Rattle.tapecard.specs.IndexCalls.{indexed_left, index_packet_call}
use Rattle.tapecard.specs.PacketCalls.{packet_change, packet_left, packet_call}
use Rattle.stream_laws.proofs.Locking.{locked_stays}
use Rattle.floppy_laws.proofs.Locking.{changed_by, lock_starts, locked_stays as floppy-stays}
use Rattle.card_laws.specs.Promises.{Bytes, LockedIn, Allows, CardLockedStays}
use Rattle.card_laws.specs.Exchanges.{ExchangeLockedStays}
use Rattle.card_laws.proofs.PacketFollowing.{packet_follows}
use Rattle.card_laws.proofs.IndexFollowing.{left_by}
use Rattle.card_laws.proofs.Exchanges.{import_by}
use Rattle.card_laws.proofs.FloppyFollowing.{floppy_follows}

-- 1Eh is the one byte under which a device's list has the lock
by_1eh : (commands : List Supported) (x : ℕ) → under (class_of PreventAllow) 0x1e commands ≡ true → look_up commands x ≡ PreventAllow → x ≡ 0x1e
by_1eh commands x u e = only_under (class_of PreventAllow) 0x1e x commands u refl (ap (λ (c : Command). eqb (class_of c) (class_of PreventAllow)) e)

stream_allows : (packet : List ℕ) → (request_of packet).command ≡ PreventAllow → prevent_bit (request_of packet) ≡ false → Allows packet
unfolding request_of request_under stream_command
stream_allows packet c p = (by_1eh stream_commands (get_or packet 0 0) refl c, p)

floppy_allows : (packet : List ℕ) → (floppy_request packet).command ≡ PreventAllow → prevent_bit (floppy_request packet) ≡ false → Allows packet
unfolding floppy_request request_under floppy_command
floppy_allows packet c p = (by_1eh floppy_commands (get_or packet 0 0) refl c, p)

-- a record that spells one that is loaded and locked
spelled : (state : List ℕ) (st : State) → decode_state state ≡ st → st.loaded ≡ true → st.locked ≡ true → LockedIn state
unfolding decode_state
spelled state st e l k = (ap (λ (x : State). x.loaded) e ∙ l, ap (λ (x : State). x.locked) e ∙ k)

packet_locked : (state image packet buf : List ℕ) → Bytes packet → (Allows packet → ⊥) → LockedIn state → LockedIn (packet_call state image packet buf).state
unfolding decode_state
packet_locked state image packet buf b n h =
    let st = decode_state state in
    spelled (packet_call state image packet buf).state _ (packet_follows.packet state image packet buf b)
    (locked_stays.loaded image st packet buf h.1 h.0) (locked_stays.locked image st packet buf h.1 (λ w c p. n (stream_allows packet c p)))

index_locked : (state image index packet buf : List ℕ) → Bytes packet → (Allows packet → ⊥) → LockedIn state
    → LockedIn (index_packet_call state image index packet buf).card.state
unfolding index_packet_call indexed_left packet_call packet_left
index_locked state image index packet buf b n h =
    left_by image index (decode_state state) packet buf (λ (x : Left State). LockedIn (packet_left state x).state) h h
    (packet_locked state image packet buf b n h)

change_locked : (state : List ℕ) → Bytes state → LockedIn state → LockedIn (packet_change state)
unfolding decode_state
change_locked state b h = spelled (packet_change state) _ (packet_follows.change state b) refl h.1

pub card_locked_stays : CardLockedStays
unfolding decode_state decode_floppy
card_locked_stays =
    record {
      packet = packet_locked;
      index_packet = index_locked;
      change = change_locked;
      floppy_packet = λ state image packet buf a b c n h.
          let f = decode_floppy state in
          spelled (floppy_packet_call state image packet buf).state _
          (ap (λ (x : Floppy). x.shared) (floppy_follows.packet state image packet buf a b c))
          (floppy-stays.loaded image f packet buf h.1 h.0) (floppy-stays.locked image f packet buf h.1 (λ w c p. n (floppy_allows packet c p)));
      floppy_change = λ state image b h.
          let f = decode_floppy state in
          spelled (floppy_change_call state image).state _ (ap (λ (x : Floppy). x.shared) (floppy_follows.change state image b))
          (changed_by (λ x. x.loaded ≡ true) image f h.0 refl) (lock_starts.changed image f ∙ h.1);
    }

pub exchange_locked_stays : ExchangeLockedStays
exchange_locked_stays state image file b h = import_by state image file LockedIn (change_locked state b h) h
