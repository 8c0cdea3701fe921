-- The calls by which processes meet at a port.
--     is_listen, is_accept, is_connect      each of them
--     is_meeting q                          it is one of them
use Rattle.std.specs.Prelude.{Bool, true, false}
use Rattle.call_table.specs.declared.request.Request.{Request}
use Rattle.call_table.specs.declared.request.Request.TheVariants.{Listen, Accept, Connect}

unfoldable pub is_listen : Request → Bool
is_listen (Listen fd backlog) = true
is_listen _ = false

unfoldable pub is_accept : Request → Bool
is_accept (Accept fd address length) = true
is_accept _ = false

unfoldable pub is_connect : Request → Bool
is_connect (Connect fd address length) = true
is_connect _ = false

unfoldable pub is_meeting : Request → Bool
is_meeting (Listen fd backlog) = true
is_meeting (Accept fd address length) = true
is_meeting (Connect fd address length) = true
is_meeting _ = false
