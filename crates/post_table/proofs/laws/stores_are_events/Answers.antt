use Rattle.post_table.proofs.LaneLemmas.{got_event, put_event}
use Rattle.post_table.proofs.laws.stores_are_events.Goals as goal

pub returns : goal.returns
returns c = record { put = put_event; got = got_event }
