use Rattle.std.proofs.Common.{◌≡◌, ◌+◌, drop, sym, ap, ◌∙◌, arith}
use Rattle.std.proofs.lemmas.List.{drop-drop}
use Rattle.cycles.specs.Code.{Cache}
use Rattle.cycles.specs.Reading.{cache}
use Rattle.machine.proofs.Times.{Quick, cost_bound}
use Rattle.machine.specs.Cells.{state_of}
use Rattle.trails.specs.Trails.{telling_of}
use Rattle.tables.specs.Showing.{cells}
use Rattle.tables.proofs.Matching.{shown_touch}
use Rattle.tables.proofs.slot.touch_slot.Goals as goal

pub spend-requires : goal.spend-requires
spend-requires c =
    let g : Cache = cache c.args.cache in
    let q : Quick g = record { hit = omega (arith, c.args.cache.cycles_fit); miss = omega (arith, c.args.cache.cycles_fit) } in
    let b = cost_bound g (state_of g c.args.slot.now) c.args.address.word q in
    let n = c.touch-touched.ensures.cycles in
    let e = c.touch-touched.ensures.behind in
    let d : drop (cells g + 7) c.touch-touched.new.cells ≡ drop (cells g + 7) c.args.slot.now = sym (drop-drop 7 (cells g) c.touch-touched.new.cells) ∙ ap (drop 7) e ∙ drop-drop 7 (cells g) c.args.slot.now in
    let l : (telling_of (drop c.cells.result c.touch-touched.new.cells)).time ≡ (telling_of (drop (cells g) c.args.slot.now)).time = ap (λ k. (telling_of (drop k c.touch-touched.new.cells)).time) c.cells.ensures ∙ ap (λ z. (telling_of z).time) e in
    let s : (telling_of (drop (c.cells.result + 7) c.touch-touched.new.cells)).time ≡ (telling_of (drop (cells g + 7) c.args.slot.now)).time = ap (λ k. (telling_of (drop (k + 7) c.touch-touched.new.cells)).time) c.cells.ensures ∙ ap (λ z. (telling_of z).time) d in
    record {
      fits = omega (arith, c.cells.ensures);
      long = omega (arith, l, n, b, c.requires.long);
      short = omega (arith, s, n, b, c.requires.short);
    }

pub returns : goal.returns
returns c a s e m =
    let g : Cache = cache c.args.cache in
    let o = c.touch-touched.ensures in
    shown_touch g a c.args.slot.now c.touch-touched.new.cells c.spend.new.slot c.cells.result c.cells.ensures c.requires.fits c.touch-touched.auto.cells c.spend.auto.slot s c.args.address.word c.touch-touched.result.cycles e o.after o.tidy o.behind o.cycles c.spend.ensures m
