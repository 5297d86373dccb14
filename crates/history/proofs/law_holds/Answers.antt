use Rattle.history.proofs.Runs.{every_run_is_lawful, every_list_is_lawful, every_entry_runs_on, every_run_is_kept}
use Rattle.history.proofs.law_holds.Goals as goal

pub returns : goal.returns
returns c = record { runs = every_run_is_lawful; lists = every_list_is_lawful; entries = every_entry_runs_on; kept = every_run_is_kept }
