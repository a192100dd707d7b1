-- What the stream device's commands take from the twelve bytes of a packet.
-- Assumes nothing.
use Rattle.std.specs.Prelude.{ℕ, ◌-◌, ◌%◌, ◌^◌, Bool, List, get_or, if◌then◌else◌}
use Rattle.numbers.specs.Choice.{◌≤ᵇ◌}
use Rattle.numbers.specs.Flags.{is_set}
use Rattle.opcodes.specs.Commands.{stream_command}
use Rattle.packet_parts.specs.declared.requests.Request.{Request}
use Rattle.packet_parts.specs.Requests.{request_under}

unfoldable pub request_of : List ℕ → Request
request_of packet = request_under (stream_command (get_or packet 0 0)) packet

-- 11h: "code in byte 1 bits 0-2"
abbrev pub space_code : Request → ℕ
space_code q = q.flags % 8

-- "Code 0 passes blocks", "Code 1 passes filemarks", "Code 3: P = U"
abbrev pub over_blocks : ℕ
over_blocks = 0

abbrev pub over_filemarks : ℕ
over_filemarks = 1

abbrev pub to_end_of_data : ℕ
to_end_of_data = 3

-- 1Bh: "byte 4 .. EOT 4"
abbrev pub eot_bit : Request → Bool
eot_bit q = is_set q.length 4

-- 2Bh: "byte 1 bit 1"
abbrev pub partition_bit : Request → Bool
partition_bit q = is_set q.flags 2

-- 11h: "bytes 2-4 are a signed count, two's complement": from 2^23 on it goes back, by 2^24 minus the count
unfoldable pub is_back : ℕ → Bool
is_back count = 2 ^ 23 ≤ᵇ count

unfoldable pub magnitude : ℕ → ℕ
magnitude count = if is_back count then 2 ^ 24 - count else count
