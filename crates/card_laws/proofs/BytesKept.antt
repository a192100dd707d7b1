-- What a call of the pulse drive leaves are bytes again.
-- Assumes nothing.
use Rattle.std.specs.Prelude.{Option, Some, None}
use mathlib.Core.Path.{◌≡◌}
use mathlib.Core.Bool.{Bool, true, ◌||◌}
use mathlib.Core.List.{List, [], ◌∷◌, ◌++◌, append_assoc}
use Prim.Native.Nat.{ℕ, zero, suc, ◌/◌, ◌%◌, ◌<◌}
use native.Mathlib.Omega.{arith}
use borrow.Author.Tests.{eqb-true, leb-true, ltb-true}
use Rattle.numbers.specs.Choice.{◌≡ᵇ◌}
use Rattle.numbers.specs.Counts.{count_bytes}
use Rattle.pulse_codes.specs.declared.arguments.Waiting.{Waiting}
use Rattle.pulse_codes.specs.Arguments.{highest_rate, needed, waiting_fits}
use Rattle.pulse_codes.specs.Codes.{seek_track, select_rate, skip_reverse, skip_forward, skip_extended_reverse, skip_extended_forward}
use Rattle.pulse_codes.specs.Errors.{admitted_errors}
use Rattle.pulse_parts.specs.declared.cartridge.Cartridge.{Cartridge}
use Rattle.pulse_parts.specs.declared.head.Motion.{Motion}
use Rattle.pulse_parts.specs.declared.head.Motion.TheVariants.{Still, Run, Load}
use Rattle.pulse_parts.specs.Reports.{most_items}
use Rattle.pulse.specs.declared.drive.Drive.{Drive}
use Rattle.pulse.specs.Rules.{is_free, keeps_rules, max_format, max_kind, max_tracks}
use Rattle.pulse_laws.proofs.Rules.{Cart, full, bare, to_rules}
use Rattle.numbers.proofs.Cases.{ands, or_by, test}
use Rattle.numbers.proofs.MemberLaws.{largest, in_largest}
use Rattle.pulse_parts.specs.Heads.{motion_byte}
use Rattle.pulse_record.specs.PulseRecord.{waited_code, encode_drive}
use Rattle.card_laws.specs.Promises.{Bytes, FitsBytes}
use Rattle.card_laws.proofs.ByteLaws.{weight_most}
use Rattle.card_laws.proofs.CycleLaws.{few_held}

-- a list of bytes, by its first and its rest
pub data All : List ℕ → Type 0 where
  none : All []
  next : {x : ℕ} {xs : List ℕ} → x < 256 → All xs → All (x ∷ xs)

-- the bytes of a number of any width, before others
pub count_all : (k v : ℕ) {xs : List ℕ} → All xs → All (count_bytes k v ++ xs)
count_all zero v a = a
count_all (suc k) v {xs} a = rw (append_assoc (count_bytes k (v / 256)) ((v % 256) ∷ []) xs) (count_all k (v / 256) (next {x = v % 256} (omega arith) a))

pub bytes_of_lem : {s : List ℕ} → All s → Bytes s
bytes_of_lem none i = omega arith
bytes_of_lem (next l a) zero = l
bytes_of_lem (next l a) (suc i) = bytes_of_lem a i

-- ---- the numbers of a drive that keeps the rules

motion_low : (m : Motion) → motion_byte m < 256
motion_low Still = omega arith
motion_low Run = omega arith
motion_low Load = omega arith

record Small (c : Cartridge) (k : ℕ) : Type 0 where
  tracks : c.tracks < 256
  format : c.format < 256
  kind : c.kind < 256
  track : k < 256

small : (c : Cartridge) {s t k : ℕ} {i r f : Bool} → Cart c s t k i r f → Small c k
small c (full p w) =
    let e = w.ranges in
    let tracks = leb-true c.tracks max_tracks (search ands depth 9) in
    let format = leb-true c.format max_format (search ands depth 9) in
    let kind = leb-true c.kind max_kind (search ands depth 9) in
    let track = w.track in
    record { tracks = omega arith; format = omega arith; kind = omega arith; track = omega arith }
small c (bare p w) =
    let e = w.none in
    let tracks = eqb-true c.tracks 0 (search ands depth 9) in
    let format = eqb-true c.format 0 (search ands depth 9) in
    let kind = eqb-true c.kind 0 (search ands depth 9) in
    let track = w.track in
    record { tracks = omega arith; format = omega arith; kind = omega arith; track = omega arith }

-- the codes that take arguments
code_low : (code : ℕ) → 0 < needed code → code < 256
unfolding needed
code_low code l =
    test ((code ≡ᵇ seek_track) || (code ≡ᵇ select_rate)) (one_of seek_track select_rate (omega arith) (omega arith))
    (λ a. test ((code ≡ᵇ skip_reverse) || (code ≡ᵇ skip_forward)) (one_of skip_reverse skip_forward (omega arith) (omega arith))
    (λ b. test ((code ≡ᵇ skip_extended_reverse) || (code ≡ᵇ skip_extended_forward))
    (one_of skip_extended_reverse skip_extended_forward (omega arith) (omega arith))
    (λ c. absurd (let z : 0 < 0 = rw (a, b, c) at l in omega arith))))
  where
    one_of : (x y : ℕ) → x < 256 → y < 256 → ((code ≡ᵇ x) || (code ≡ᵇ y)) ≡ true → code < 256
    one_of x y p q e =
        or_by (code ≡ᵇ x) (code ≡ᵇ y) e (λ a. omega (arith, eqb-true code x a)) (λ a. omega (arith, eqb-true code y a))

waited_low : (w : Option Waiting) (free referenced : Bool) → waiting_fits w free referenced ≡ true → waited_code w < 256
waited_low None free referenced e = omega arith
waited_low (Some w) free referenced e =
    let l : w.held < needed w.code = ltb-true w.held (needed w.code) (search ands) in
    code_low w.code (omega arith)

-- ---- its bytes

pub encoded_bytes : (d : Drive) → keeps_rules d ≡ true → FitsBytes d → Bytes (encode_drive d)
unfolding encode_drive largest
encoded_bytes d k f =
    let r = to_rules d k in
    let c = small d.cart r.0.cart in
    let free = is_free d.report d.head d.fault d.marks in
    let m = d.marks in
    let rate = leb-true d.rate highest_rate r.0.rate in
    let error = in_largest d.fault.error admitted_errors r.0.error in
    let left = leb-true d.report.left most_items (search ands) in
    let held = few_held d.waiting free m.referenced r.1 in
    let repeat = weight_most d.report.repeat 16 in
    bytes_of_lem
    (next (omega (arith, weight_most m.inside 1, weight_most m.referenced 2, weight_most m.fresh 4, weight_most m.asked 8, repeat))
    (next (motion_low d.head.motion)
    (count_all 2 d.cart.segments
    (next c.tracks
    (next (omega (arith, weight_most d.cart.protected 1, weight_most d.cart.burst 2, weight_most d.cart.wide 4))
    (next c.format
    (next c.kind
    (count_all 2 d.head.place
    (count_all 2 d.head.target
    (next c.track
    (next (omega arith)
    (next (omega arith)
    (next f.command
    (next (omega (arith, weight_most d.level 1))
    (next (omega arith)
    (count_all 2 _
    (next (waited_low d.waiting free m.referenced r.1)
    (next (omega arith)
    (count_all 2 _
    (count_all 2 d.vendor
    (next f.rom (next (omega arith) (next (omega arith) (next (omega arith) (next (omega arith) (next (omega arith) none))))))))))))))))))))))))))
