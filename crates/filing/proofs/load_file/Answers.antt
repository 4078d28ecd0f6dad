use Rattle.chart.proofs.States.{possible}
use Rattle.filing.proofs.Filed.{loaded}
use Rattle.filing.proofs.load_file.Goals as goal

pub returns : goal.returns
returns g c =
    let told = c.in_ok-load.ensures.brings in
    let marks = c.marks.ensures in
    let legs = c.legs.ensures in
    record { outcome = _; loads = told; answer = cc; state = loaded _ _ (possible c.args.chart.now) (possible c.load.new.chart) told }
