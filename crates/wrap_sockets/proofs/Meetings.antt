-- Which of the calls a request is.
--     no_listen, no_accept, no_connect      a request that is one has that form
--     connect_left                          what is neither of the others
use Rattle.std.proofs.Common.{◌≡◌, ℕ, true, false, refl, sym}
use Rattle.views.proofs.MapLaws.{true_false}
use Rattle.call_table.specs.declared.request.Request.{Request}
use Rattle.call_table.specs.declared.request.Request.TheVariants.{Listen, Accept, Connect}
use Rattle.wrap_sockets.specs.Meeting.{is_listen, is_accept, is_connect, is_meeting}

pub no_listen : (q : Request) → is_listen q ≡ true → ((fd backlog : ℕ) → q ≡ Listen fd backlog → ⊥) → ⊥
unfolding is_listen
no_listen (Listen fd backlog) is not = not fd backlog refl
no_listen _ is not = true_false (sym is)

pub no_accept : (q : Request) → is_accept q ≡ true
    → ((fd address length : ℕ) → q ≡ Accept fd address length → ⊥) → ⊥
unfolding is_accept
no_accept (Accept fd address length) is not = not fd address length refl
no_accept _ is not = true_false (sym is)

pub no_connect : (q : Request) → is_connect q ≡ true
    → ((fd address length : ℕ) → q ≡ Connect fd address length → ⊥) → ⊥
unfolding is_connect
no_connect (Connect fd address length) is not = not fd address length refl
no_connect _ is not = true_false (sym is)

pub connect_left : (q : Request) → is_meeting q ≡ true → is_listen q ≡ false → is_accept q ≡ false
    → is_connect q ≡ true
unfolding is_meeting is_listen is_accept is_connect
connect_left (Listen fd backlog) is listens accepts = true_false listens
connect_left (Accept fd address length) is listens accepts = true_false accepts
connect_left (Connect fd address length) is listens accepts = refl
connect_left _ is listens accepts = true_false (sym is)
