use Rattle.vx_records.proofs.HexParts.{hex_read}
use Rattle.vx_records.proofs.decoding.header_hex.Goals as goal

pub returns-clause-digits : goal.returns-clause-digits
returns-clause-digits c = hex_read _ c.in_ok-hex.hex.now c.in_ok-hex.rest.now c.in_ok-hex.ensures.exact
