-- `listing::list_film`: an opening, then its frames.
use mathlib.Core.Path.{ap}
use Rattle.refusal.specs.Number.{result_of}
use Rattle.listing.proofs.FileLaws.{film_refused, film_opened}
use Rattle.listing.proofs.list_film.Goals as goal

pub returns-in-Err : goal.returns-in-Err
returns-in-Err c =
    film_refused _ _ c.open-o.ensures (ap result_of c.in-Err.is) c.put_line.ensures

pub returns-in-Ok : goal.returns-in-Ok
returns-in-Ok c =
    film_opened _ _ c.open-o.ensures (ap result_of c.in-Ok.is) c.list_frames.ensures
