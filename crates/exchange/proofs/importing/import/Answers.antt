use native.Mathlib.Omega.{arith}
use Rattle.std.specs.Prelude.{◌≡◌, Some, Ok}
use Rattle.image.specs.Header.{header_of}
use Rattle.image.proofs.HeaderLaws.{sound}
use Rattle.tap.specs.Files.{reads}
use Rattle.tap.specs.Judging.{found_from}
use Rattle.exchange.proofs.ImportLaws.{import-taken}
use Rattle.exchange.proofs.importing.import.Goals as goal

pub set_recorded-requires : goal.set_recorded-requires
set_recorded-requires c =
    let good : header_of c.args.image.now ≡ Some c.in_ok-h.h = grind arith in
    let g = sound _ _ good in
    omega arith

pub returns : goal.returns
returns c =
    let good : header_of c.args.image.now ≡ Some c.in_ok-h.h = grind arith in
    let judged : Ok c.in_ok-found.found ≡ found_from 0 (reads c.in_ok-h.h.size c.args.file.now c.in_ok-h.h.capacity 0) = grind arith in
    search import-taken
