-- The pulse drive's record, cartridge description and answer in bytes. Numbers are big-endian; reserved bits and bytes are ignored and written as 0.
-- Assumes nothing.
use Rattle.std.specs.Prelude.{ℕ, ◌+◌, ◌%◌, ◌^◌, Bool, List, [], ◌∷◌, ◌++◌, get_or, if◌then◌else◌, Option, Some, None}
use Rattle.numbers.specs.Choice.{◌≡ᵇ◌}
use Rattle.numbers.specs.Counts.{count_at, count_bytes}
use Rattle.pulse_codes.specs.declared.arguments.Waiting.{Waiting}
use Rattle.pulse_parts.specs.declared.cartridge.Cartridge.{Cartridge}
use Rattle.pulse_parts.specs.declared.head.Head.{Head}
use Rattle.pulse_parts.specs.declared.marks.Marks.{Marks}
use Rattle.pulse_parts.specs.declared.reports.Report.{Report}
use Rattle.pulse.specs.declared.drive.Drive.{Drive}
use Rattle.numbers.specs.Flags.{is_set, weight_of}
pub use Rattle.pulse_parts.specs.Heads.{motion_of, motion_byte}

-- ---- bytes that name a case

-- report bits: "read and written as 0 where no report is open"
unfoldable pub unsent : ℕ → ℕ → ℕ
unsent left bits = if left ≡ᵇ 0 then 0 else bits

-- "code whose arguments are waited for, 0 for none"; "the value is read modulo 16^held"
unfoldable pub waiting_of : ℕ → ℕ → ℕ → Option Waiting
waiting_of code held value = if code ≡ᵇ 0 then None else Some record { code = code; held = held; value = value % 16 ^ held }

-- "written as 0 where none are waited for"
abbrev pub waited_code : Option Waiting → ℕ
waited_code None = 0
waited_code (Some w) = w.code

abbrev pub waited_held : Option Waiting → ℕ
waited_held None = 0
waited_held (Some w) = w.held

abbrev pub waited_value : Option Waiting → ℕ
waited_value None = 0
waited_value (Some w) = w.value

-- ---- the cartridge

-- "cartridge flags: bit 0 protected, bit 1 burst present, bit 2 wide"
unfoldable pub cartridge_of : ℕ → ℕ → ℕ → ℕ → ℕ → Cartridge
cartridge_of segments tracks flags format kind =
    record { segments = segments; tracks = tracks; protected = is_set flags 1; burst = is_set flags 2; wide = is_set flags 4; format = format; kind = kind }

abbrev pub cartridge_byte : Cartridge → ℕ
cartridge_byte c = weight_of c.protected 1 + weight_of c.burst 2 + weight_of c.wide 4

-- a description, 8 bytes: "0-1 segments; 2 tracks; 3-4 place S; 5 flags .. ; 6 format; 7 type"
unfoldable pub described_cartridge : List ℕ → Cartridge
described_cartridge s = cartridge_of (count_at s 0 2) (get_or s 2 0) (get_or s 5 0) (get_or s 6 0) (get_or s 7 0)

unfoldable pub described_place : List ℕ → ℕ
described_place s = count_at s 3 2

-- ---- the record

-- "flags: bit 0 cartridge in, bit 1 referenced, bit 2 new-cartridge mark, bit 3 status was asked, bit 4 a repeat is owed"
abbrev pub marks_of : ℕ → Marks
marks_of flags = record { inside = is_set flags 1; referenced = is_set flags 2; fresh = is_set flags 4; asked = is_set flags 8 }

abbrev pub marks_byte : Marks → Report → ℕ
marks_byte m r = weight_of m.inside 1 + weight_of m.referenced 2 + weight_of m.fresh 4 + weight_of m.asked 8 + weight_of r.repeat 16

unfoldable pub cartridge_in : List ℕ → Cartridge
cartridge_in s = cartridge_of (count_at s 2 2) (get_or s 4 0) (get_or s 5 0) (get_or s 6 0) (get_or s 7 0)  -- 2-3, 4, 5, 6, 7

unfoldable pub head_in : List ℕ → Head
head_in s =
    record {
      motion = motion_of (get_or s 1 0);  -- 1
      place = count_at s 8 2;  -- 8-9
      target = count_at s 10 2;  -- 10-11
      track = get_or s 12 0;  -- 12
    }

unfoldable pub report_in : List ℕ → Report
report_in s =
    record {
      repeat = is_set (get_or s 0 0) 16;  -- 0: bit 4
      left = get_or s 17 0;  -- 17
      bits = unsent (get_or s 17 0) (count_at s 18 2);  -- 18-19
    }

unfoldable pub waiting_in : List ℕ → Option Waiting
waiting_in s = waiting_of (get_or s 20 0) (get_or s 21 0) (count_at s 22 2)  -- 20, 21, 22-23

-- the record that 32 bytes spell
unfoldable pub decode_drive : List ℕ → Drive
decode_drive s =
    record {
      marks = marks_of (get_or s 0 0);  -- 0: bits 0-3
      cart = cartridge_in s;
      head = head_in s;
      rate = get_or s 13 0;  -- 13
      fault = record { error = get_or s 14 0; command = get_or s 15 0 };  -- 14, 15
      level = is_set (get_or s 16 0) 1;  -- 16: bit 0
      report = report_in s;
      waiting = waiting_in s;
      vendor = count_at s 24 2;  -- 24-25
      rom = get_or s 26 0;  -- 26
    }

-- the 32 bytes of a record
unfoldable pub encode_drive : Drive → List ℕ
encode_drive d =
    marks_byte d.marks d.report  -- 0
    ∷ motion_byte d.head.motion  -- 1
    ∷ (count_bytes 2 d.cart.segments  -- 2-3
    ++ (d.cart.tracks  -- 4
    ∷ cartridge_byte d.cart  -- 5
    ∷ d.cart.format  -- 6
    ∷ d.cart.kind  -- 7
    ∷ (count_bytes 2 d.head.place  -- 8-9
    ++ (count_bytes 2 d.head.target  -- 10-11
    ++ (d.head.track  -- 12
    ∷ d.rate  -- 13
    ∷ d.fault.error  -- 14
    ∷ d.fault.command  -- 15
    ∷ weight_of d.level 1  -- 16
    ∷ d.report.left  -- 17
    ∷ (count_bytes 2 (unsent d.report.left d.report.bits)  -- 18-19
    ++ (waited_code d.waiting  -- 20
    ∷ waited_held d.waiting  -- 21
    ∷ (count_bytes 2 (waited_value d.waiting)  -- 22-23
    ++ (count_bytes 2 d.vendor  -- 24-25
    ++ (d.rom  -- 26
    ∷ 0 ∷ 0 ∷ 0 ∷ 0 ∷ 0 ∷ []))))))))))  -- 27-31

-- ---- the answer

-- "0 number; 1 level; 2-3 zero; 4-7 ticks"
unfoldable pub encode_told : ℕ → Bool → ℕ → List ℕ
encode_told number level ticks = number ∷ weight_of level 1 ∷ 0 ∷ 0 ∷ count_bytes 4 ticks
