-- `read_tag` meets its contract. Assumes nothing.
use Rattle.model_bytes.proofs.Laws.Reading.{tag_read}
use Rattle.model_bytes.proofs.decode.read_tag.Goals as goal

pub returns : goal.returns
returns c = tag_read _ _ c.read_text.result c.read_word.ensures c.read_text.ensures
