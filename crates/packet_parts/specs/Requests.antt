-- What the commands take from the twelve bytes of a packet.
-- Assumes nothing.
use Rattle.std.specs.Prelude.{ℕ, ◌*◌, ◌%◌, Bool, List, get_or}
use Rattle.numbers.specs.Counts.{count_at}
use Rattle.numbers.specs.Flags.{is_set}
use Rattle.image.specs.declared.header.Header.{Header}
use Rattle.opcodes.specs.declared.Command.{Command}
use Rattle.packet_parts.specs.declared.requests.Request.{Request}

abbrev pub packet_length : ℕ
packet_length = 12

-- the fields of a packet, under the command that a device has for its first byte
unfoldable pub request_under : Command → List ℕ → Request
request_under command packet =
    record {
      command = command;
      flags = get_or packet 1 0;
      page = get_or packet 2 0;
      count = count_at packet 2 3;
      target = count_at packet 3 4;
      length = get_or packet 4 0;
    }

-- 08h, 0Ah: "byte 1 bit 0 must be 1"
abbrev pub fixed_blocks : Request → Bool
fixed_blocks q = is_set q.flags 1

-- 1Ah: "page (byte 2, six bits)"
abbrev pub page_code : Request → ℕ
page_code q = q.page % 64

-- 1Bh: "byte 4 load 1"
abbrev pub load_bit : Request → Bool
load_bit q = is_set q.length 1

-- 02, A8: "1Eh, byte 4 bit 0"
abbrev pub prevent_bit : Request → Bool
prevent_bit q = is_set q.length 1

-- 08h, 0Ah: "Needs N*B bytes of room."
abbrev pub block_bytes : Header → ℕ → ℕ
block_bytes h count = count * h.size
