-- 02, A1: the floppy tape device's record in bytes. Numbers are big-endian; reserved bits and bytes are ignored and written as 0.
-- Assumes nothing.
use Rattle.std.specs.Prelude.{ℕ, List, [], ◌∷◌, ◌++◌, get_or}
use Rattle.numbers.specs.Counts.{count_at, count_bytes}
use Rattle.packet_record.specs.PacketRecord.{decode_state, encode_state}
use Rattle.floppy_parts.specs.declared.tape.Floppy.{Floppy}
use Rattle.floppy_parts.specs.declared.tape.Tape.{Tape}
use Rattle.floppy_parts.specs.Tape.{flags_byte, floppy_of, reported_of}

-- the tape parameters that bytes 16-31 spell
unfoldable pub decode_tape : List ℕ → Tape
decode_tape s =
    record {
      bseg = get_or s 18 0;  -- 18
      segtrk = count_at s 20 2;  -- 20-21
      trks = count_at s 22 2;  -- 22-23
      reported =
          reported_of
          (get_or s 16 0)  -- 16: density
          (get_or s 17 0)  -- 17: format fill byte
          (get_or s 24 0)  -- 24: MAXSECT
          (get_or s 25 0)  -- 25: MAXCYL
          (get_or s 26 0)  -- 26: MAXHD
          (get_or s 19 0);  -- 19: bit 7 WDAM, bit 6 RM, bit 5 FW
    }

-- the record that 32 bytes spell: 0-15 as the packet record
unfoldable pub decode_floppy : List ℕ → Floppy
decode_floppy s = floppy_of (decode_state s) (decode_tape s)

-- bytes 16-31 of a record; a number wider than its bytes gives its low ones
unfoldable pub encode_tape : Tape → List ℕ
encode_tape t =
    t.reported.density  -- 16
    ∷ t.reported.fill  -- 17
    ∷ t.bseg  -- 18
    ∷ flags_byte t.reported  -- 19
    ∷ (count_bytes 2 t.segtrk  -- 20-21
    ++ (count_bytes 2 t.trks  -- 22-23
    ++ (t.reported.sector  -- 24
    ∷ t.reported.cylinder  -- 25
    ∷ t.reported.head  -- 26
    ∷ 0 ∷ 0 ∷ 0 ∷ 0 ∷ 0 ∷ [])))  -- 27-31

-- the 32 bytes of a record
unfoldable pub encode_floppy : Floppy → List ℕ
encode_floppy f = encode_state f.shared ++ encode_tape f.tape
