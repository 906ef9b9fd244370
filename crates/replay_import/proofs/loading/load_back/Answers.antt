-- `replay_import::loading::load_back` meets its contract: each need follows from its own premises.
use Rattle.replay_import.proofs.loading.load_back.Goals as goal

pub same_again-again-requires : goal.same_again-again-requires
same_again-again-requires c =
    c.requires
