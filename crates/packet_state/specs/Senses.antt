-- The sense of each ending: key, ASC, ASCQ, and what a stop adds.
-- Assumes nothing.
use Rattle.std.specs.Prelude.{ℕ, Bool, true, false}
use Rattle.packet_state.specs.declared.senses.Key.{Key}
use Rattle.packet_state.specs.declared.senses.Key.TheVariants.{NoSense, NotReady, MediumError, IllegalRequest, UnitAttention, DataProtect, BlankCheck}
use Rattle.packet_state.specs.declared.senses.Key.TheVariants.{VolumeOverflow}
use Rattle.packet_state.specs.declared.state.Sense.{Sense}
use Rattle.packet_state.specs.declared.state.Attention.{Attention}
use Rattle.packet_state.specs.declared.state.Attention.TheVariants.{Nothing, MediumChanged, Reset}

-- 003, the sense keys
abbrev pub key_byte : Key → ℕ
key_byte NoSense = 0
key_byte NotReady = 2
key_byte MediumError = 3
key_byte IllegalRequest = 5
key_byte UnitAttention = 6
key_byte DataProtect = 7
key_byte BlankCheck = 8
key_byte VolumeOverflow = 0x0d

-- key, ASC and ASCQ alone
abbrev pub plain : ℕ → ℕ → ℕ → Sense
plain key asc ascq =
    record { key = key; asc = asc; ascq = ascq; filemark = false; eom = false; valid = false; information = 0 }

-- 01: "A stop is valid with information .."
abbrev pub stopped : ℕ → ℕ → ℕ → Bool → Bool → ℕ → Sense
stopped key asc ascq filemark eom left =
    record { key = key; asc = asc; ascq = ascq; filemark = filemark; eom = eom; valid = true; information = left }

abbrev pub no_sense : Sense
no_sense = plain 0 0 0

-- the sense with another EOM
abbrev pub with_eom : Sense → Bool → Sense
with_eom x eom =
    record { key = x.key; asc = x.asc; ascq = x.ascq; filemark = x.filemark; eom = eom; valid = x.valid; information = x.information }

-- ---- ends before the work

-- "A pending attention ends any packet but 03h and 12h with 6/28/00 (medium) or 6/29/00 (reset)"
abbrev pub unit_attention : Attention → Sense
unit_attention Nothing = no_sense
unit_attention MediumChanged = plain 6 0x28 0
unit_attention Reset = plain 6 0x29 0

-- "Unknown opcode 5/20/00"
abbrev pub invalid_opcode : Sense
invalid_opcode = plain 5 0x20 0

-- "Bad field 5/24/00"
abbrev pub invalid_field : Sense
invalid_field = plain 5 0x24 0

-- 15h: "list length (byte 4, a field) 0, 12 or 32, else 5/1A/00"
abbrev pub wrong_list_length : Sense
wrong_list_length = plain 5 0x1a 0

-- 02, A8: "Unloading while locked ends with 5/53/02"
abbrev pub removal_prevented : Sense
removal_prevented = plain 5 0x53 2

-- "Not loaded 2/3A/00"
abbrev pub not_loaded : Sense
not_loaded = plain 2 0x3a 0

-- "Write protected 7/27/00"
abbrev pub write_protected : Sense
write_protected = plain 7 0x27 0

-- ---- ends of the work

-- "Filemark: .. key 0, filemark, 00/01"
abbrev pub filemark_detected : ℕ → Sense
filemark_detected left = stopped 0 0 1 true false left

-- "Unreadable: .. 3/11/00"
abbrev pub unreadable_block : ℕ → Sense
unreadable_block left = stopped 3 0x11 0 false false left

-- "P = U: stop, 8/00/05, no EOM"; 02, A3: "EOM is shown too when that happens at or after early warning"
abbrev pub end_of_data : Bool → ℕ → Sense
end_of_data eom left = stopped 8 0 5 false eom left

-- "At P = C: stop, key D, EOM, 00/02, valid, information the rest"
abbrev pub volume_overflow : ℕ → Sense
volume_overflow left = stopped 0x0d 0 2 false true left

-- "CHECK CONDITION, key 0, EOM, 00/02, valid, information 0"
abbrev pub early_warning : Sense
early_warning = stopped 0 0 2 false true 0

-- "beginning key 0, EOM, 00/04"
abbrev pub beginning_of_tape : ℕ → Sense
beginning_of_tape left = stopped 0 0 4 false true left

-- 2Bh: "Above U: P = U, 8/00/05, not valid"
abbrev pub beyond_data : Sense
beyond_data = plain 8 0 5

-- 15h: "else 5/26/00"
abbrev pub wrong_list : Sense
wrong_list = plain 5 0x26 0
