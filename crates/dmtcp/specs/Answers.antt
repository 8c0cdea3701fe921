-- What the program answers without the top call.
--     Greets words text        the text where the words ask for nothing but help or the version
--     Said text status answer old new      a sink has taken the text whole, and the answer is the status; or the sink failed
use Rattle.std.specs.Prelude.{◌≡◌, ◌≢◌, ◌⊎◌, ℕ, List, [], ◌∷◌, Option, Some, None, codes}
use Rattle.views.specs.Faults.{Rose}
use Rattle.edge_io.specs.Sink.{SeenSink, appended}
use Rattle.dmtcp_top.specs.Help.{help_text}
use Rattle.endings.specs.declared.status.Status.{Status}
use Rattle.endings.specs.declared.status.Status.TheVariants.{SinkFault}

pub record Greets (words : List (List ℕ)) (text : Option (List ℕ)) : Type 0 where
  pub help : words ≡ codes "--help" ∷ [] → text ≡ Some help_text
  pub version : words ≡ codes "--version" ∷ [] → text ≡ Some (codes "dmtcp 0.1.0\n")
  pub none : words ≢ codes "--help" ∷ [] → words ≢ codes "--version" ∷ [] → text ≡ None

-- from what is seen of the sink before, and after
abbrev pub Said : List ℕ → Status → Status → SeenSink → SeenSink → Type 0
Said text status answer old new =
    ((answer ≡ status) × (new.taken ≡ appended old.taken text)) ⊎ ((answer ≡ SinkFault) × Rose old.faults new.faults)
