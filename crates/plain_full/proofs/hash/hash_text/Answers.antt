use Rattle.plain_full.proofs.HashLemmas.{two_pieces}
use Rattle.plain_full.proofs.hash.hash_text.Goals as goal

pub returns : goal.returns
returns c = two_pieces c.args.hash c.hash_bytes-started.result c.hash_bytes.result c.to_be_bytes-length.result c.as_bytes.result.now _ _ c.to_be_bytes-length.ensures c.as_bytes.ensures.value c.hash_bytes-started.ensures c.hash_bytes.ensures
