-- The call on the bytes.
use Rattle.export.proofs.Through.{request_through_lem}
use Rattle.octets.proofs.Little.{low_bytes}
use mathlib.Core.Path.{◌∙◌}
use Rattle.export.proofs.sdo_handle_request.Goals as goal

pub returns : goal.returns
returns c =
    let lent = c.in-Some.ensures.cases in
    request_through_lem _ _ _ _ _ _ _ _ _ _ _ _ _ _ _ lent.long (c.to_le_bytes-who.ensures ∙ low_bytes 8 c.args.client) lent.same c.of_request.ensures c.handle_request.ensures
