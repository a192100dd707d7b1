-- A report's items, and the bits of each report (000, table 2c).
-- Assumes nothing.
use Rattle.std.specs.Prelude.{ℕ, ◌+◌, ◌-◌, ◌*◌, ◌/◌, ◌%◌, Bool, false, not, ◌&&◌, ◌||◌, if◌then◌else◌}
use Rattle.numbers.specs.Choice.{◌≡ᵇ◌, ◌<ᵇ◌, ◌≤ᵇ◌}
use Rattle.numbers.specs.Flags.{weight_of}
use Rattle.pulse_parts.specs.Heads.{is_still}
use Rattle.pulse_parts.specs.Faults.{error_held}
use Rattle.pulse_parts.specs.declared.cartridge.Cartridge.{Cartridge}
use Rattle.pulse_parts.specs.declared.fault.Fault.{Fault}
use Rattle.pulse_parts.specs.declared.head.Head.{Head}
use Rattle.pulse_parts.specs.declared.marks.Marks.{Marks}
use Rattle.pulse_parts.specs.declared.reports.Report.{Report}

-- no report is open
abbrev pub no_report : Report
no_report = record { left = 0; bits = 0; repeat = false }

-- 01: "the bits as they stood then, lowest first, then a final 1"
abbrev pub report_of8 : ℕ → Report
report_of8 bits = record { left = 8 + 1; bits = bits; repeat = false }

abbrev pub report_of16 : ℕ → Report
report_of16 bits = record { left = 16 + 1; bits = bits; repeat = false }

abbrev pub is_open : Report → Bool
is_open r = 0 <ᵇ r.left

abbrev pub most_items : ℕ
most_items = 17

-- 01: "report items left <= 17; a repeat owed only in an open report"
abbrev pub report_fits : Report → Bool
report_fits r = (r.left ≤ᵇ most_items) && (not r.repeat || is_open r)

-- the next item: the lowest bit, or the final 1 where it is the last
abbrev pub item_level : Report → Bool
item_level r = (r.left ≤ᵇ 1) || (r.bits % 2 ≡ᵇ 1)

-- the report without its next item; the last one closes it
abbrev pub items_left : Report → Report
items_left r =
    if r.left ≤ᵇ 1 then no_report else
    record { left = r.left - 1; bits = r.bits / 2; repeat = false }

abbrev pub owing : Report → Bool → Report
owing r repeat = record { left = r.left; bits = r.bits; repeat = repeat }

-- 000, table 2c, 6. 01: "Status bits 6 and 7 are S = 0 and S = G, both 0 without a cartridge."
abbrev pub status_bits : Head → Fault → Marks → Cartridge → ℕ
status_bits h f m c =
    weight_of (is_still h.motion) 1
    + weight_of (error_held f) 2
    + weight_of m.inside 4
    + weight_of c.protected 8
    + weight_of m.fresh 16
    + weight_of m.referenced 32
    + weight_of (m.inside && (h.place ≡ᵇ 0)) 64
    + weight_of (m.inside && (h.place ≡ᵇ c.segments)) 128

-- 000, table 2c, 7: the error, then its command
abbrev pub error_bits : Fault → ℕ
error_bits f = f.error + f.command * 256

-- 000, table 2c, 33: the type of extra length (XL), and the format QIC-80
abbrev pub extra_length : ℕ
extra_length = 2

abbrev pub qic80 : ℕ
qic80 = 2

-- 000, table 2c, 8. 01: "config bits 1, 2, 5 zero, bit 6 set for type 2 and bit 7 for format 2, both only when referenced"
abbrev pub configuration_bits : ℕ → Marks → Cartridge → ℕ
configuration_bits rate m c =
    rate * 8 + (weight_of (m.referenced && (c.kind ≡ᵇ extra_length)) 64 + weight_of (m.referenced && (c.format ≡ᵇ qic80)) 128)

-- 000, table 2c, 33. 01: "33 sends zero format and type when not referenced."
abbrev pub tape_bits : Marks → Cartridge → ℕ
tape_bits m c =
    if m.referenced then c.format + c.kind * 16 + weight_of c.wide 128 else
    weight_of c.wide 128
