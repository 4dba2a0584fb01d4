-- `listing::list_front`: the front parts of the buffers are listed into, and the bytes behind them stay.
use lib.Seq.{length-take-le, length_front}
use Rattle.listing.proofs.FileLaws.{lists_front}
use mathlib.Core.Path.{sym}
use Rattle.listing.proofs.list_front.Goals as goal

pub slice_bounds-list_film-end : goal.slice_bounds-list_film-end
slice_bounds-list_film-end c = c.requires.left

pub slice_bounds-list_film-end-2 : goal.slice_bounds-list_film-end-2
slice_bounds-list_film-end-2 c = sym (length-take-le c.args.n c.args.a.now c.requires.left)

pub slice_bounds-list_film-end-3 : goal.slice_bounds-list_film-end-3
slice_bounds-list_film-end-3 c = c.requires.right

pub slice_bounds-list_film-end-4 : goal.slice_bounds-list_film-end-4
slice_bounds-list_film-end-4 c = sym (length-take-le c.args.n c.args.b.now c.requires.right)

pub slice_bounds-list_film-end-5 : goal.slice_bounds-list_film-end-5
slice_bounds-list_film-end-5 c = c.requires.colours

pub slice_bounds-list_film-end-6 : goal.slice_bounds-list_film-end-6
slice_bounds-list_film-end-6 c = sym (length-take-le 768 c.args.map.now c.requires.colours)

pub slice_bounds-list_film-end-7 : goal.slice_bounds-list_film-end-7
slice_bounds-list_film-end-7 c = c.requires.drawn

pub slice_bounds-list_film-end-8 : goal.slice_bounds-list_film-end-8
slice_bounds-list_film-end-8 c = sym (length-take-le c.args.n c.args.work.now c.requires.drawn)

pub slice_bounds-list_film-end-9 : goal.slice_bounds-list_film-end-9
slice_bounds-list_film-end-9 c = c.requires.written

pub slice_bounds-list_film-end-10 : goal.slice_bounds-list_film-end-10
slice_bounds-list_film-end-10 c = sym (length-take-le 65536 c.args.rec.now c.requires.written)

pub shape_of-a : goal.shape_of-a
shape_of-a c = length_front c.args.a.now c.list_film.new.a c.args.n c.list_film.auto.a

pub shape_of-b : goal.shape_of-b
shape_of-b c = length_front c.args.b.now c.list_film.new.b c.args.n c.list_film.auto.b

pub shape_of-map : goal.shape_of-map
shape_of-map c = length_front c.args.map.now c.list_film.new.map 768 c.list_film.auto.map

pub shape_of-work : goal.shape_of-work
shape_of-work c = length_front c.args.work.now c.list_film.new.work c.args.n c.list_film.auto.work

pub shape_of-rec : goal.shape_of-rec
shape_of-rec c = length_front c.args.rec.now c.list_film.new.rec 65536 c.list_film.auto.rec

pub shape_of-out : goal.shape_of-out
shape_of-out c = c.list_film.auto.out

pub returns : goal.returns
returns c =
    let k = c.args in
    lists_front k.file.now (record { a = k.a.now; b = k.b.now; map = k.map.now; work = k.work.now; rec = k.rec.now }) {n = k.n} c.requires c.list_film.ensures
