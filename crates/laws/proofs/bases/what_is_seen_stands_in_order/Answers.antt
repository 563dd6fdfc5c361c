use Rattle.history.proofs.Points.{further_point, same_point}
use Rattle.laws.proofs.bases.what_is_seen_stands_in_order.Goals as goal

pub returns : goal.returns
returns c = record { same = same_point; further = further_point }
