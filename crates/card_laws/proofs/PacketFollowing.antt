-- Bytes kept between packets follow the engine: the record that an accepted packet leaves fits its bytes, and so do the counts of its answer.
-- Assumes nothing.
use Rattle.std.specs.Prelude.{if◌then◌else◌}
use mathlib.Core.Path.{◌≡◌, refl, sym}
use mathlib.Core.Bool.{Bool, true, false}
use mathlib.Core.List.{List}
use Prim.Native.Nat.{ℕ, ◌^◌, ◌<◌}
use native.Mathlib.Nat.{mul-le-mul}
use native.Mathlib.Omega.{arith}
use borrow.Author.Tests.{eqb-true, eqb-false}
use lib.Dec.{eqb}
use Rattle.numbers.specs.Counts.{count_at}
use Rattle.numbers.proofs.CountLaws.{count_bound}
use Rattle.image.proofs.HeaderLaws.{sound}
use Rattle.packet_state.specs.declared.state.State.{State}
use Rattle.packet_parts.specs.Answers.{Left}
use Rattle.packet_parts.specs.Requests.{request_under}
use Rattle.stream_parts.specs.Requests.{request_of}
use Rattle.packet_state.specs.States.{fresh_state}
use Rattle.packet_state.proofs.RecordLaws.{speed_most}
use Rattle.stream.specs.Packet.{packet_step}
use Rattle.packet_laws.specs.Words.{number_of, blocks_of, bytes_of, marked_of}
use Rattle.stream_laws.proofs.Leaving.{accepted_leaves}
use Rattle.stream_laws.proofs.Refusals.{refused_keeps}
use Rattle.packet_record.specs.PacketRecord.{decode_state, encode_state, encode_answer}
use Rattle.tapecard.specs.PacketCalls.{packet_fresh, packet_change, packet_left, packet_call}
use Rattle.card_laws.specs.Promises.{Bytes, PacketFollows}
use Rattle.card_laws.proofs.ByteLaws.{four_back}
use Rattle.card_laws.proofs.CycleLaws.{state_kept_by_cycle, decoded_state_fits}

-- ---- what an accepted packet leaves fits

module _ (state image packet buf : List ℕ) (b : Bytes packet) where
  abbrev x : Left State
  x = packet_step image (decode_state state) packet buf

  -- nothing is cut in the bytes that are left
  record Whole (accepted : Bool) : Type 0 where
    followed : decode_state (if accepted then encode_state x.state else state) ≡ x.state
    blocks : blocks_of x < 2 ^ 32
    bytes : bytes_of x < 2 ^ 32
    marked : marked_of x < 2 ^ 32

  accepted_whole : number_of x ≡ 0 → Whole true
  unfolding request_of request_under
  accepted_whole e =
      let w = accepted_leaves image (decode_state state) packet buf e in
      let a = w.accepted in
      let r = a.ruly in
      let g = sound _ _ w.header in
      let f = speed_most _ r.speed in
      let i = count_bound packet 2 3 b in
      let m = mul-le-mul a.blocks g.size_most in
      record {
        followed = state_kept_by_cycle _ (record { position = omega arith; speed = omega arith; information = omega (arith, a.information) });
        blocks = omega (arith, a.blocks);
        bytes = omega (arith, a.bytes, b 4);
        marked = omega (arith, a.blocks, a.marked);
      }

  refused_whole : (number_of x ≡ 0 → ⊥) → Whole false
  refused_whole n =
      let r = refused_keeps image (decode_state state) packet buf n in
      record {
        followed = sym r.state_kept;
        blocks = omega (arith, r.no_blocks);
        bytes = omega (arith, r.no_bytes);
        marked = omega (arith, r.no_marked);
      }

  whole : Whole (eqb (number_of x) 0)
  whole = by (eqb (number_of x) 0) refl
    where
      by : (a : Bool) → eqb (number_of x) 0 ≡ a → Whole a
      by true e = accepted_whole (eqb-true _ _ e)
      by false e = refused_whole (eqb-false _ _ e)

-- ---- the promises

pub packet_follows : PacketFollows
unfolding packet_fresh packet_change packet_call packet_left
packet_follows =
    record {
      fresh = state_kept_by_cycle fresh_state (record { position = omega arith; speed = omega arith; information = omega arith });
      change = λ state b. state_kept_by_cycle _ (record { position = omega arith; speed = (decoded_state_fits state b).speed; information = omega arith });
      packet = λ state image packet buf b. (whole state image packet buf b).followed;
    }

pub blocks_whole : (state image packet buf : List ℕ) → Bytes packet
    → count_at (packet_call state image packet buf).answer 4 4 ≡ blocks_of (packet_step image (decode_state state) packet buf)
unfolding packet_call packet_left encode_answer
blocks_whole state image packet buf b = four_back _ (whole state image packet buf b).blocks

pub bytes_whole : (state image packet buf : List ℕ) → Bytes packet
    → count_at (packet_call state image packet buf).answer 8 4 ≡ bytes_of (packet_step image (decode_state state) packet buf)
unfolding packet_call packet_left encode_answer
bytes_whole state image packet buf b = four_back _ (whole state image packet buf b).bytes

pub marked_whole : (state image packet buf : List ℕ) → Bytes packet
    → count_at (packet_call state image packet buf).answer 12 4 ≡ marked_of (packet_step image (decode_state state) packet buf)
unfolding packet_call packet_left encode_answer
marked_whole state image packet buf b = four_back _ (whole state image packet buf b).marked
