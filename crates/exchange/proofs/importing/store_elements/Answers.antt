use Rattle.exchange.proofs.ImportLaws.{store_start, store-next}
use Rattle.exchange.proofs.importing.store_elements.Goals as goal

pub loop-i-init : goal.loop-i-init
loop-i-init c = search store_start

pub loop-i-preserved : goal.loop-i-preserved
loop-i-preserved c = search store-next
