-- `aes::rounds::columns` meets its contract. Assumes nothing.
use Rattle.octets.specs.Numbers.{bytes_of}
use Rattle.fips197.specs.Cipher.{sub_bytes, shift_rows, mix_columns}
use Rattle.aes.proofs.Words.{beside}
use Rattle.aes.proofs.rounds.columns.Goals as goal

pub returns : goal.returns
unfolding bytes_of mix_columns shift_rows sub_bytes
returns c = λ i. beside (c.column.ensures i) (c.column-2.ensures i) (c.column-3.ensures i) (c.column-4.ensures i)
