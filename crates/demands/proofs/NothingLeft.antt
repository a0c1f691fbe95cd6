-- A module without words has no signal, whatever was before it.
use Rattle.law_module.specs.Runs.{fed_all}
use Rattle.law_module.proofs.Alone.{ended_of_no_words}
use Rattle.demands.specs.Demands.{NothingLeft}

pub nothing_left : NothingLeft
unfolding NothingLeft fed_all
nothing_left code x ok shut = ended_of_no_words code ok x.session shut.0 shut.1
