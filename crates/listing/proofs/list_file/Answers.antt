-- `listing::list_file`: the file's line or its frames.
use mathlib.Core.Path.{sym}
use Rattle.listing.proofs.FileLaws.{lists_single, lists_pictures}
use Rattle.listing.proofs.list_file.Goals as goal

pub returns-in-Err : goal.returns-in-Err
returns-in-Err c = lists_single _ _ (sym c.in-Err.ensures) c.put_line.ensures

pub returns-in-Ok : goal.returns-in-Ok
returns-in-Ok c = lists_pictures _ _ (sym c.in-Ok.ensures) c.list_front.ensures
