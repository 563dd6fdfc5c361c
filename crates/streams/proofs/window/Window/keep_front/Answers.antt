use Rattle.streams.proofs.Sliding.{kept_front}
use Rattle.streams.proofs.window.Window.keep_front.Goals as goal

pub returns-clause-bytes : goal.returns-clause-bytes
returns-clause-bytes c =
    let w = c.self.inside in
    rw (← c.self.view_is) (kept_front w.bytes.items w.at w.end 256 c.min-kept.result c.min-kept.ensures)
