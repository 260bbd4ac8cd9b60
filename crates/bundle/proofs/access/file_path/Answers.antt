-- `bundle::access::file_path` meets its contract, way by way. Assumes nothing.
use Rattle.bundle.specs.Decode.{file_at}
use Rattle.bundle.proofs.access.file_path.Goals as goal

pub returns : goal.returns
unfolding file_at
returns c = c.text_at.ensures
