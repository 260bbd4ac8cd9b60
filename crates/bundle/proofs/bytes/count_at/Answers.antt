-- `bundle::bytes::count_at` meets its contract, way by way. Assumes nothing.
use Rattle.bundle.proofs.bytes.count_at.Goals as goal

pub returns-in-Byte : goal.returns-in-Byte
returns-in-Byte c =
    rw c.in-Byte.is c.byte_at.ensures

pub returns-in-Word : goal.returns-in-Word
returns-in-Word c =
    rw c.in-Word.is c.word_at.ensures
