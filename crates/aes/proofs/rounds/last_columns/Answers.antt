-- `aes::rounds::last_columns` meets its contract. Assumes nothing.
use Rattle.octets.specs.Numbers.{bytes_of}
use Rattle.fips197.specs.Cipher.{sub_bytes, shift_rows}
use Rattle.aes.proofs.Words.{beside}
use Rattle.aes.proofs.rounds.last_columns.Goals as goal

pub returns : goal.returns
unfolding bytes_of shift_rows sub_bytes
returns c = λ i. beside (c.last_column.ensures i) (c.last_column-2.ensures i) (c.last_column-3.ensures i) (c.last_column-4.ensures i)
