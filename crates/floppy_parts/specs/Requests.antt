-- What the floppy tape device's commands take from the twelve bytes of a packet.
-- Assumes nothing.
use Rattle.std.specs.Prelude.{ℕ, List, get_or}
use Rattle.opcodes.specs.Commands.{floppy_command}
use Rattle.packet_parts.specs.declared.requests.Request.{Request}
use Rattle.packet_parts.specs.Requests.{request_under}

unfoldable pub floppy_request : List ℕ → Request
floppy_request packet = request_under (floppy_command (get_or packet 0 0)) packet

-- "READ, WRITE and LOCATE take the one-byte counts and the block number": byte 4, and bytes 3-6
abbrev pub blocks_asked : Request → ℕ
blocks_asked q = q.length

abbrev pub block_number : Request → ℕ
block_number q = q.target
