-- A record that is encoded is decoded again.
-- Assumes nothing.
use Rattle.std.specs.Prelude.{if◌then◌else◌, Option, Some, None}
use mathlib.Core.Path.{◌≡◌, refl}
use mathlib.Core.Bool.{Bool, true, false, ◌||◌}
use mathlib.Core.List.{List, [], ◌++◌}
use Prim.Native.Nat.{ℕ, ◌+◌, ◌*◌, ◌/◌, ◌%◌, ◌^◌, ◌<◌, ◌≤◌}
use native.Mathlib.Nat.{lt_of_lt_of_le, zero-lt-suc, pow-le-pow_right, one-le-pow, mod-eq_of_lt, mod-lt}
use native.Mathlib.Omega.{arith}
use borrow.Author.Tests.{ne_eqb, leb-true, ltb-true, eqb-true}
use lib.ListN.{get_or}
use Rattle.numbers.proofs.CountLaws.{count_bound}
use Rattle.numbers.specs.Counts.{count_at}
use Rattle.numbers.specs.Choice.{◌≡ᵇ◌, ◌<ᵇ◌}
use Rattle.numbers.proofs.Cases.{ands}
use Rattle.packet_state.specs.declared.state.Attention.{Attention}
use Rattle.packet_state.specs.declared.state.Sense.{Sense}
use Rattle.packet_state.specs.declared.state.State.{State}
use Rattle.pulse_codes.specs.declared.arguments.Waiting.{Waiting}
use Rattle.pulse_codes.specs.Arguments.{needed, waiting_fits}
use Rattle.pulse_codes.specs.Codes.{seek_track, select_rate, skip_reverse, skip_forward, skip_extended_reverse, skip_extended_forward}
use Rattle.pulse_parts.specs.declared.cartridge.Cartridge.{Cartridge}
use Rattle.pulse_parts.specs.declared.fault.Fault.{Fault}
use Rattle.pulse_parts.specs.declared.head.Head.{Head}
use Rattle.pulse_parts.specs.declared.head.Motion.{Motion}
use Rattle.pulse_parts.specs.declared.marks.Marks.{Marks}
use Rattle.pulse_parts.specs.declared.reports.Report.{Report}
use Rattle.pulse.specs.Drives.{drive_of}
use Rattle.pulse.specs.Rules.{is_free}
use Rattle.pulse_laws.proofs.Rules.{Cart, full, bare, to_rules}
use Rattle.packet_record.specs.PacketRecord.{decode_state, encode_state}
use Rattle.floppy_parts.specs.declared.tape.Reported.{Reported}
use Rattle.floppy_parts.specs.declared.tape.Tape.{Tape}
use Rattle.floppy_parts.specs.Tape.{floppy_of}
use Rattle.floppy_record.specs.FloppyRecord.{decode_floppy, decode_tape, encode_floppy, encode_tape}
use Rattle.pulse_record.specs.PulseRecord.{waiting_of, waited_code, waited_held, waited_value, cartridge_of, cartridge_byte, cartridge_in, head_in, report_in}
use Rattle.pulse_record.specs.PulseRecord.{waiting_in, decode_drive, encode_drive}
use Rattle.card_laws.specs.Promises.{HeldAlone, FitsRecord, StateKeptByCycle, DecodedStateFits, FloppyKeptByCycle, DecodedTapeFits}
use Rattle.card_laws.specs.Promises.{DriveKeptByCycle, DecodedDriveFits}
use Rattle.card_laws.proofs.ByteLaws.{two_back, four_back, one_back, pair_back, three_back, high_back, five_back, attention_back, motion_back}
use Rattle.card_laws.proofs.ByteLaws.{bits_back, unsent_most, unsent_closed}

-- ---- the packet drive

same_state : {p p' s s' : ℕ} {l l' k k' : Bool} {a a' : Attention} {x x' : Sense} → p ≡ p' → l ≡ l' → k ≡ k' → a ≡ a' → s ≡ s' → x ≡ x'
    → ◌≡◌ {A = State} (record { position = p; loaded = l; locked = k; attention = a; speed = s; sense = x })
    (record { position = p'; loaded = l'; locked = k'; attention = a'; speed = s'; sense = x' })
same_state p l k a s x = rw (p, l, k, a, s, x)

same_sense : {k c q i i' : ℕ} {f f' e e' v v' : Bool} → f ≡ f' → e ≡ e' → v ≡ v' → i ≡ i'
    → ◌≡◌ {A = Sense} (record { key = k; asc = c; ascq = q; filemark = f; eom = e; valid = v; information = i })
    (record { key = k; asc = c; ascq = q; filemark = f'; eom = e'; valid = v'; information = i' })
same_sense f e v i = rw (f, e, v, i)

-- whatever bytes stand after its own
state_back : (st : State) (rest : List ℕ) → FitsRecord st → decode_state (encode_state st ++ rest) ≡ st
unfolding decode_state encode_state
state_back st rest f =
    let x = st.sense in
    let b = three_back x.valid x.eom x.filemark in
    let d = pair_back st.loaded st.locked in
    same_state (four_back st.position f.position) d.0 d.1 (attention_back st.attention) (two_back st.speed f.speed)
    (same_sense b.1.1 b.1.0 b.0 (four_back x.information f.information))

pub state_kept_by_cycle : StateKeptByCycle
unfolding encode_state
state_kept_by_cycle st f = state_back st [] f

-- ---- the floppy tape device

same_reported : {d i s c h : ℕ} {w w' r r' f f' : Bool} → w ≡ w' → r ≡ r' → f ≡ f'
    → ◌≡◌ {A = Reported} (record { density = d; fill = i; sector = s; cylinder = c; head = h; deleted = w; reduced = r; formatting = f })
    (record { density = d; fill = i; sector = s; cylinder = c; head = h; deleted = w'; reduced = r'; formatting = f' })
same_reported w r f = rw (w, r, f)

same_tape : {b s s' t t' : ℕ} {x x' : Reported} → s ≡ s' → t ≡ t' → x ≡ x'
    → ◌≡◌ {A = Tape} (record { bseg = b; segtrk = s; trks = t; reported = x }) (record { bseg = b; segtrk = s'; trks = t'; reported = x' })
same_tape s t x = rw (s, t, x)

same_floppy : {s s' : State} {t t' : Tape} → s ≡ s' → t ≡ t' → floppy_of s t ≡ floppy_of s' t'
same_floppy s t = rw (s, t)

pub floppy_kept_by_cycle : FloppyKeptByCycle
unfolding decode_floppy decode_tape encode_floppy encode_tape encode_state
floppy_kept_by_cycle f a b =
    let t = f.tape in
    let x = t.reported in
    let g = high_back x.deleted x.reduced x.formatting in
    same_floppy (state_back f.shared (encode_tape t) a)
    (same_tape (two_back t.segtrk b.segtrk) (two_back t.trks b.trks) (same_reported g.0 g.1.0 g.1.1))

-- ---- the parts of the pulse drive

cartridge_back : (c : Cartridge) → c.segments < 2 ^ 16
    → cartridge_of (c.segments / 256 % 256 * 256 + c.segments % 256) c.tracks (cartridge_byte c) c.format c.kind ≡ c
unfolding cartridge_of
cartridge_back c h =
    let b = three_back c.protected c.burst c.wide in
    rw (two_back c.segments h, b.0, b.1.0, b.1.1)

waiting_back : (w : Option Waiting) → HeldAlone w → (waited_code w ≡ 0 → w ≡ None) → waited_held w ≤ 4
    → waiting_of (waited_code w) (waited_held w) (waited_value w / 256 % 256 * 256 + waited_value w % 256) ≡ w
unfolding waiting_of
waiting_back None a n l = refl
waiting_back (Some w) a n l =
    let small : w.value < 2 ^ 16 = lt_of_lt_of_le a (pow-le-pow_right (zero-lt-suc 15) l) in
    let some : w.code ≡ 0 → ⊥ = λ z. (let q : Some w ≡ None = n z in let o : ◌≡◌ {A = ℕ} 0 1 = cc in omega arith) in
    rw (ne_eqb w.code 0 some, two_back w.value small, mod-eq_of_lt a)

-- ---- what the rules say

record Placed (c : Cartridge) (h : Head) : Type 0 where
  segments : c.segments < 2 ^ 16
  place : h.place < 2 ^ 16
  target : h.target < 2 ^ 16

placed : (c : Cartridge) (h : Head) {i r f : Bool} → Cart c h.place h.target h.track i r f → Placed c h
placed c h (full p w) =
    let e = w.ranges in
    let s : c.segments ≤ 4095 = leb-true c.segments 4095 (search ands depth 9) in
    let p = w.place in
    let t = w.target in
    record { segments = omega arith; place = omega arith; target = omega arith }
placed c h (bare p w) =
    let e = w.none in
    let s : c.segments ≡ 0 = eqb-true c.segments 0 (search ands depth 9) in
    let p = w.place in
    let t = w.target in
    record { segments = omega arith; place = omega arith; target = omega arith }

most_of_three : (a b c : Bool) → (if a then 1 else if b then 2 else if c then 3 else 0) ≤ 3
most_of_three true b c = omega arith
most_of_three false true c = omega arith
most_of_three false false true = omega arith
most_of_three false false false = omega arith

needed_most : (code : ℕ) → needed code ≤ 3
unfolding needed
needed_most code =
    most_of_three ((code ≡ᵇ seek_track) || (code ≡ᵇ select_rate)) ((code ≡ᵇ skip_reverse) || (code ≡ᵇ skip_forward))
    ((code ≡ᵇ skip_extended_reverse) || (code ≡ᵇ skip_extended_forward))

pub few_held : (w : Option Waiting) (free referenced : Bool) → waiting_fits w free referenced ≡ true → waited_held w ≤ 4
few_held None free referenced e = omega arith
few_held (Some w) free referenced e =
    let l : w.held < needed w.code = ltb-true w.held (needed w.code) (search ands) in
    let m = needed_most w.code in
    omega arith

-- no code 0 takes arguments
coded : (w : Option Waiting) (free referenced : Bool) → waiting_fits w free referenced ≡ true → waited_code w ≡ 0 → w ≡ None
unfolding needed
coded None free referenced e z = refl
coded (Some w) free referenced e z =
    let l : (w.held <ᵇ needed w.code) ≡ true = search ands in
    let m : (w.held <ᵇ needed 0) ≡ true = rw z at l in
    let n : w.held < 0 = ltb-true w.held 0 m in
    absurd (let o : ◌≡◌ {A = ℕ} 0 1 = omega arith in omega arith)

-- ---- the pulse drive

same_head : {p p' t t' k : ℕ} {m m' : Motion} → p ≡ p' → t ≡ t' → m ≡ m'
    → ◌≡◌ {A = Head} (record { place = p; target = t; track = k; motion = m }) (record { place = p'; target = t'; track = k; motion = m' })
same_head p t m = rw (p, t, m)

same_marks : {i i' r r' n n' a a' : Bool} → i ≡ i' → r ≡ r' → n ≡ n' → a ≡ a'
    → ◌≡◌ {A = Marks} (record { inside = i; referenced = r; fresh = n; asked = a }) (record { inside = i'; referenced = r'; fresh = n'; asked = a' })
same_marks i r n a = rw (i, r, n, a)

same_report : {l b b' : ℕ} {r r' : Bool} → b ≡ b' → r ≡ r' →
    ◌≡◌ {A = Report} (record { left = l; bits = b; repeat = r }) (record { left = l; bits = b'; repeat = r' })
same_report b r = rw (b, r)

same_drive : {c c' : Cartridge} {h h' : Head} {m m' : Marks} {f : Fault} {r r' : Report} {w w' : Option Waiting} {rate rom v v' : ℕ} {l l' : Bool}
    → c ≡ c' → h ≡ h' → m ≡ m' → r ≡ r' → w ≡ w' → l ≡ l' → v ≡ v'
    → drive_of c h m f r w rate l v rom ≡ drive_of c' h' m' f r' w' rate l' v' rom
same_drive c h m r w l v = rw (c, h, m, r, w, l, v)

pub drive_kept_by_cycle : DriveKeptByCycle
unfolding decode_drive encode_drive cartridge_in head_in report_in waiting_in
drive_kept_by_cycle d k f =
    let rules = to_rules d k in
    let free = is_free d.report d.head d.fault d.marks in
    let p = placed d.cart d.head rules.0.cart in
    let g = five_back d.marks.inside d.marks.referenced d.marks.fresh d.marks.asked d.report.repeat in
    same_drive
    (cartridge_back d.cart p.segments)
    (same_head (two_back d.head.place p.place) (two_back d.head.target p.target) (motion_back d.head.motion))
    (same_marks g.0 g.1.0 g.1.1.0 g.1.1.1.0)
    (same_report (bits_back d.report.left d.report.bits f.bits f.closed) g.1.1.1.1)
    (waiting_back d.waiting f.held (coded d.waiting free d.marks.referenced rules.1)
    (few_held d.waiting free d.marks.referenced rules.1))
    (one_back d.level)
    (two_back d.vendor f.vendor)

-- ---- what is read fits

pub decoded_state_fits : DecodedStateFits
unfolding decode_state
decoded_state_fits s h = record { position = count_bound s 0 4 h; speed = count_bound s 6 2 h; information = count_bound s 12 4 h }

pub decoded_tape_fits : DecodedTapeFits
unfolding decode_tape
decoded_tape_fits s h =
    record {
      bseg = h 18;
      segtrk = count_bound s 20 2 h;
      trks = count_bound s 22 2 h;
      density = h 16;
      fill = h 17;
      sector = h 24;
      cylinder = h 25;
      head = h 26;
    }

held_alone : (none : Bool) (code held value : ℕ)
    → HeldAlone (if none then None else Some record { code = code; held = held; value = value % 16 ^ held })
held_alone true code held value = tt
held_alone false code held value = mod-lt value (one-le-pow held 16 (zero-lt-suc 15))

pub decoded_drive_fits : DecodedDriveFits
unfolding decode_drive report_in waiting_in waiting_of
decoded_drive_fits s h =
    record {
      vendor = count_bound s 24 2 h;
      rom = h 26;
      command = h 15;
      bits = unsent_most (get_or s 17 0) (count_at s 18 2) (count_bound s 18 2 h);
      closed = unsent_closed (get_or s 17 0) (count_at s 18 2);
      held = held_alone (get_or s 20 0 ≡ᵇ 0) (get_or s 20 0) (get_or s 21 0) (count_at s 22 2);
    }
