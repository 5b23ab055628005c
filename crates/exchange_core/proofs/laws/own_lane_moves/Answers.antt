use Rattle.exchange_core.proofs.MachineLemmas.{put_moves, got_moves}
use Rattle.exchange_core.proofs.laws.own_lane_moves.Goals as goal

pub returns : goal.returns
returns c = record { put = put_moves; got = got_moves }
