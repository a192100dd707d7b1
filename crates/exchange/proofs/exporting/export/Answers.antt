use native.Mathlib.Omega.{arith}
use Rattle.std.specs.Prelude.{◌≡◌, Some}
use Rattle.image.specs.Header.{header_of}
use Rattle.exchange.proofs.ExportLaws.{export-short, export-well}
use Rattle.exchange.proofs.exporting.export.Goals as goal

pub returns-then-file-needed : goal.returns-then-file-needed
returns-then-file-needed c =
    let good : header_of c.args.image.now ≡ Some c.in_ok-h.h = grind arith in
    search export-short

pub returns : goal.returns
returns c =
    let good : header_of c.args.image.now ≡ Some c.in_ok-h.h = grind arith in
    search export-well
