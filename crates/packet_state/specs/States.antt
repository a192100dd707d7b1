-- 01: "Record: position P; loaded; attention (none, medium changed, reset); speed; sense (key, ASC, ASCQ, filemark, EOM, valid, information)."
-- 02, A8: "The packet record gains a locked flag, false when fresh and kept through a cartridge change."
-- Assumes nothing.
use Rattle.std.specs.Prelude.{ℕ, Bool, true, false, ◌&&◌, List, [], ◌∷◌, if◌then◌else◌}
use Rattle.numbers.specs.Choice.{◌≡ᵇ◌, ◌≤ᵇ◌}
use Rattle.numbers.specs.Member.{is_in}
use Rattle.packet_state.specs.declared.state.Attention.{Attention}
use Rattle.packet_state.specs.declared.state.Attention.TheVariants.{Nothing, MediumChanged, Reset}
use Rattle.packet_state.specs.declared.state.Sense.{Sense}
use Rattle.packet_state.specs.declared.state.State.{State}
use Rattle.packet_state.specs.Senses.{no_sense}

-- "attention: 0 none, 1 medium changed, 2 reset"; any other byte is read as 0
unfoldable pub attention_of : ℕ → Attention
attention_of byte =
    if byte ≡ᵇ 1 then MediumChanged else
    if byte ≡ᵇ 2 then Reset else
    Nothing

-- ---- the record with one part replaced

abbrev pub at_place : State → ℕ → State
at_place st x =
    record { position = x; loaded = st.loaded; locked = st.locked; attention = st.attention; speed = st.speed; sense = st.sense }

abbrev pub with_loaded : State → Bool → State
with_loaded st x =
    record { position = st.position; loaded = x; locked = st.locked; attention = st.attention; speed = st.speed; sense = st.sense }

abbrev pub with_locked : State → Bool → State
with_locked st x =
    record { position = st.position; loaded = st.loaded; locked = x; attention = st.attention; speed = st.speed; sense = st.sense }

abbrev pub with_attention : State → Attention → State
with_attention st x =
    record { position = st.position; loaded = st.loaded; locked = st.locked; attention = x; speed = st.speed; sense = st.sense }

abbrev pub with_speed : State → ℕ → State
with_speed st x =
    record { position = st.position; loaded = st.loaded; locked = st.locked; attention = st.attention; speed = x; sense = st.sense }

abbrev pub with_sense : State → Sense → State
with_sense st x =
    record { position = st.position; loaded = st.loaded; locked = st.locked; attention = st.attention; speed = st.speed; sense = x }

-- ---- the records that 01 names

-- "Fresh: P 0, loaded, attention reset, speed 0, sense zero."; 02, A2: "The fresh record's speed becomes 250 instead of 0."; A8: "false when fresh"
abbrev pub fresh_state : State
fresh_state = record { position = 0; loaded = true; locked = false; attention = Reset; speed = 250; sense = no_sense }

-- "Changing the cartridge (never refused) sets only P 0, loaded, attention medium changed, sense zero."; 02, A8: the locked flag is "kept through a cartridge
-- change"
abbrev pub changed_state : State → State
changed_state st = with_sense (with_attention (with_loaded (at_place st 0) true) MediumChanged) no_sense

-- ---- refusal 3

-- 15h: "speed 0, 62, 125, 250 or 500"
abbrev pub speeds : List ℕ
speeds = 0 ∷ 62 ∷ 125 ∷ 250 ∷ 500 ∷ []

abbrev pub highest_key : ℕ
highest_key = 15

-- "packet record has P > U, a speed outside the five, or a sense key above 15", with the end of what is on the tape for U
unfoldable pub keeps_record_rules : ℕ → State → Bool
keeps_record_rules end st = (st.position ≤ᵇ end) && is_in st.speed speeds && (st.sense.key ≤ᵇ highest_key)
