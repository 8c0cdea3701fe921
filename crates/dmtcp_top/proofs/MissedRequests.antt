-- A run that came to its end has made each request that was due.
use Rattle.std.proofs.Common.{◌≡◌, ℕ, ◌<◌, length, ⊎_elim, arith}
use Rattle.trace_log.proofs.RequestOutcomes.{stays_open}
use Rattle.dmtcp_top.specs.OneOrder.{LacksNoRequest}

not_full : {A : Type 0} (n room : ℕ) → n ≡ room → n < room → A
not_full n room full less = absurd (omega arith)

pub lacks_no_request : LacksNoRequest
lacks_no_request schedule g room every trace console over is some below enough roomy plain =
    let made = over.shown.run in
    ⊎_elim
    (λ answered. stays_open schedule g over.shown.state made.requests trace every made.reaches is some below enough plain answered)
    (λ full. not_full (length trace) room full roomy)
    over.answered
