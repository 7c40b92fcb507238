use Rattle.std.proofs.Common.{◌≡◌, ◌+◌, ◌<◌, ◌≤◌, ◌++◌, map, length, sym, refl, ◌∙◌, ap₂, arith}
use Rattle.cycles.specs.Reading.{cache}
use Rattle.trails.specs.Trails.{bit}
use Rattle.tables.specs.declared.slot.Extreme.TheVariants.{Longest, Shortest}
use Rattle.timing.proofs.Ends.{first_pass, told_crowded, slot_fits, chosen, tellable, is_longest, is_shortest, bits_map, first_long, second_long, both_told, both_kept}
use Rattle.timing.proofs.within.time_within.Goals as goal
use Rattle.timing.proofs.within.time_within.Goals.{then-longest-bytes-via-then-longest-bytes, then-longest-bytes-via-else-longest-bytes+then-shortest-bytes}

pub returns-in_default-clause-says : goal.returns-in_default-clause-says
returns-in_default-clause-says c = told_crowded c.requires.reads.1 c.requires.fits c.tabulate.result c.args.choices.now c.tabulate.ensures c.in_default.not-Ok

pub telling_of-shortest-requires : goal.telling_of-shortest-requires
telling_of-shortest-requires c = slot_fits (first_pass c.requires.reads.1 c.requires.fits c.tabulate.auto.slots c.in-Ok.ensures) c.best-short.result.0 c.best-short.ensures.within

pub returns-then-longest-bytes-clause-says : goal.returns-then-longest-bytes-clause-says
returns-then-longest-bytes-clause-says c =
    let d = first_pass c.requires.reads.1 c.requires.fits c.tabulate.auto.slots c.in-Ok.ensures in
    let x = is_longest (chosen d Longest c.best-long.result.0 c.telling_of-longest.result c.best-long.ensures.within c.best-long.ensures.best c.telling_of-longest.ensures) in
    let y = is_shortest (chosen d Shortest c.best-short.result.0 c.telling_of-shortest.result c.best-short.ensures.within c.best-short.ensures.best c.telling_of-shortest.ensures) in
    let more : length c.args.choices.now < c.telling_of-longest.result.count + c.telling_of-shortest.result.count = elim c.then-longest-bytes.branch [ then-longest-bytes-via-then-longest-bytes w ↦ omega (arith, w.if-longest-bytes.true) | then-longest-bytes-via-else-longest-bytes+then-shortest-bytes w ↦ omega (arith, w.if-longest-bytes.false, w.if-shortest-bytes.true) ] in
    (cache c.args.cache, c.requires.reads.0, c.requires.reads.1, λ bs cs n m l s. omega (arith, more, x.1 n bs l, y.1 m cs s), refl)

pub tell_play-requires : goal.tell_play-requires
tell_play-requires c =
    let d = first_pass c.requires.reads.1 c.requires.fits c.tabulate.auto.slots c.in-Ok.ensures in
    let x = chosen d Longest c.best-long.result.0 c.telling_of-longest.result c.best-long.ensures.within c.best-long.ensures.best c.telling_of-longest.ensures in
    let fits : c.telling_of-longest.result.count + c.telling_of-shortest.result.count ≤ length c.args.choices.now = omega (arith, c.if-longest-bytes.false, c.if-shortest-bytes.false) in
    tellable d _ x refl (first_long c.args.choices.now c.args.choices.now _ _ fits) refl d.holding

pub tell_play-requires-2 : goal.tell_play-requires-2
tell_play-requires-2 c =
    let d = first_pass c.requires.reads.1 c.requires.fits c.tabulate.auto.slots c.in-Ok.ensures in
    let x = chosen d Longest c.best-long.result.0 c.telling_of-longest.result c.best-long.ensures.within c.best-long.ensures.best c.telling_of-longest.ensures in
    let y = chosen d Shortest c.best-short.result.0 c.telling_of-shortest.result c.best-short.ensures.within c.best-short.ensures.best c.telling_of-shortest.ensures in
    let fits : c.telling_of-longest.result.count + c.telling_of-shortest.result.count ≤ length c.args.choices.now = omega (arith, c.if-longest-bytes.false, c.if-shortest-bytes.false) in
    let l = first_long c.args.choices.now c.args.choices.now _ _ fits in
    let s = c.tell_play.ensures.still (tellable d _ x refl l refl d.holding) refl in
    tellable d _ y c.tell_play.auto.slots (second_long c.args.choices.now c.tell_play.new.out _ _ fits (c.tell_play.auto.out ∙ l)) s.from s.holding

pub returns-clause-says : goal.returns-clause-says
returns-clause-says c =
    let d = first_pass c.requires.reads.1 c.requires.fits c.tabulate.auto.slots c.in-Ok.ensures in
    let x = chosen d Longest c.best-long.result.0 c.telling_of-longest.result c.best-long.ensures.within c.best-long.ensures.best c.telling_of-longest.ensures in
    let y = chosen d Shortest c.best-short.result.0 c.telling_of-shortest.result c.best-short.ensures.within c.best-short.ensures.best c.telling_of-shortest.ensures in
    let fits : c.telling_of-longest.result.count + c.telling_of-shortest.result.count ≤ length c.args.choices.now = omega (arith, c.if-longest-bytes.false, c.if-shortest-bytes.false) in
    let l = first_long c.args.choices.now c.args.choices.now _ _ fits in
    let n : length c.tell_play.new.out ≡ c.telling_of-longest.result.count = c.tell_play.auto.out ∙ l in
    let k = second_long c.args.choices.now c.tell_play.new.out _ _ fits n in
    let r = tellable d _ x refl l refl d.holding in
    let s = c.tell_play.ensures.still r refl in
    let a : c.tell_play.new.out ≡ map bit x.e.val.long.choices = c.tell_play.ensures.told r in
    let b : c.tell_play-2.new.out ≡ map bit y.e.val.short.choices = c.tell_play-2.ensures.told (tellable d _ y c.tell_play.auto.slots k s.from s.holding) in
    let m : length c.tell_play-2.new.out ≡ c.telling_of-shortest.result.count = c.tell_play-2.auto.out ∙ k in
    (cache c.args.cache, c.requires.reads.0, x.e.val.long.choices, y.e.val.short.choices, c.requires.reads.1, (is_longest x).0, (is_shortest y).0, x.count, omega (arith, y.count), both_told c.args.choices.now c.tell_play.new.out _ _ fits c.tell_play-2.new.out n m ∙ ap₂ ◌++◌ (a ∙ sym (bits_map x.e.val.long.choices)) (b ∙ sym (bits_map y.e.val.short.choices)), both_kept c.args.choices.now c.tell_play.new.out _ _ fits c.tell_play-2.new.out n m)
