use Rattle.std.proofs.Common.{◌≡◌, ◌+◌, ◌-◌, ◌*◌, ◌≤◌, length, take, drop, sym, refl, ◌∙◌, subst, arith, length-drop}
use borrow.Rule.Slice.PartMut.{put_mid, same_len_mid}
use Rattle.std.proofs.lemmas.List.{take_rest}
use Rattle.cycles.specs.Reading.{cache}
use Rattle.tables.specs.Showing.{firsts_of, width}
use Rattle.timing.specs.Retelling.{side}
use Rattle.timing.proofs.Hearing.{Written, heard_as, entry_fits, heard_long, heard_some, written_first, written_more, written_all}
use Rattle.timing.proofs.retell.tell_play.Goals as goal

pub telling_of-telling-requires : goal.telling_of-telling-requires
telling_of-telling-requires c = entry_fits c.requires.fitting c.requires.at

pub tell-told-requires : goal.tell-told-requires
tell-told-requires c =
    let r = c.requires in
    let m = (heard_as c.args.teller.extreme r.from c.telling_of-telling.ensures r.holding r.at) in
    record { room = omega (arith, heard_long r.long m); lies = m.sound.lies }

pub loop-told-init : goal.loop-told-init
loop-told-init c =
    let p = c.requires in
    let q = (heard_as c.args.teller.extreme p.from c.telling_of-telling.ensures p.holding p.at) in
    let h = heard_long p.long q in (
      omega (arith, c.tell-told.ensures.many, c.tell-told.auto.out),
      λ r. let m = (heard_as c.args.teller.extreme r.from c.telling_of-telling.ensures r.holding r.at) in
          subst (λ n. Written n c.tell-told.new.out (side c.args.teller.extreme r.e.val).choices) (sym c.tell-told.ensures.many) (written_first c.args.out.now c.tell-told.new.out (sym c.tell-told.auto.out ∙ r.long) m (c.tell-told.ensures.tells 0 (side c.args.teller.extreme r.e.val).choices m.tells)),
      λ r z. record { a = r.a; from = z; holding = r.holding },
    )

pub telling_of-further-requires : goal.telling_of-further-requires
telling_of-further-requires c = subst (λ n. width (cache c.args.teller.cache) * c.args.teller.entry.0 + width (cache c.args.teller.cache) ≤ n) (sym (c.again.auto.slots ∙ c.loop-told.auto.slots)) (entry_fits c.requires.fitting c.requires.at)

pub tell-told-requires-in-loop-told : goal.tell-told-requires-in-loop-told
tell-told-requires-in-loop-told c =
    let r = c.requires in
    let m = (heard_as c.args.teller.extreme c.firsts_from-firsts.ensures.0 c.telling_of-further.ensures (c.again.ensures (cache c.args.teller.cache) r.fitting.p r.fitting.reads) r.at) in
    let e : take (length c.loop-told.out - c.loop-told.told) (drop c.loop-told.told c.loop-told.out) ≡ drop c.loop-told.told c.loop-told.out = simp take_rest in
    let l : length c.loop-told.out ≡ length (side c.args.teller.extreme r.e.val).choices = c.loop-told.auto.out ∙ c.tell-told.auto.out ∙ r.long in
    record { room = rw e (omega (arith, length-drop c.loop-told.told c.loop-told.out, heard_long l m)); lies = m.sound.lies }

pub loop-told-smaller : goal.loop-told-smaller
loop-told-smaller c =
    let r = c.requires in
    let m = (heard_as c.args.teller.extreme c.firsts_from-firsts.ensures.0 c.telling_of-further.ensures (c.again.ensures (cache c.args.teller.cache) r.fitting.p r.fitting.reads) r.at) in
    let l : length c.loop-told.out ≡ length (side c.args.teller.extreme r.e.val).choices = c.loop-told.auto.out ∙ c.tell-told.auto.out ∙ r.long in
    let s = heard_some l c.loop-told-test.true m in
    let t = c.loop-told-test.true in
    omega (arith, s, t, c.tell-told-in-loop-told.ensures.many, c.loop-told.auto.out)

pub loop-told-preserved : goal.loop-told-preserved
loop-told-preserved c =
    let p = c.requires in
    let q = (heard_as c.args.teller.extreme c.firsts_from-firsts.ensures.0 c.telling_of-further.ensures (c.again.ensures (cache c.args.teller.cache) p.fitting.p p.fitting.reads) p.at) in
    let b : length c.loop-told.out ≡ length (side c.args.teller.extreme p.e.val).choices = c.loop-told.auto.out ∙ c.tell-told.auto.out ∙ p.long in
    let h = heard_long b q in
    let n = same_len_mid c.loop-told.told (length c.loop-told.out - c.loop-told.told) c.loop-told.out c.tell-told-in-loop-told.new.out c.tell-told-in-loop-told.auto.out in (
      omega (arith, n, h, c.tell-told-in-loop-told.ensures.many, c.loop-told-test.true),
      λ r. let m = (heard_as c.args.teller.extreme c.firsts_from-firsts.ensures.0 c.telling_of-further.ensures (c.again.ensures (cache c.args.teller.cache) r.fitting.p r.fitting.reads) r.at) in
          let l : length c.loop-told.out ≡ length (side c.args.teller.extreme r.e.val).choices = c.loop-told.auto.out ∙ r.long in
          subst (λ j. Written (c.loop-told.told + j) (put_mid c.loop-told.told (length c.loop-told.out - c.loop-told.told) c.loop-told.out c.tell-told-in-loop-told.new.out) (side c.args.teller.extreme r.e.val).choices) (sym c.tell-told-in-loop-told.ensures.many) (written_more c.loop-told.out c.tell-told-in-loop-told.new.out c.loop-told.told (length c.loop-told.out - c.loop-told.told) c.loop-told-test.true l refl m (c.loop-told.invariant.1 r) (c.tell-told-in-loop-told.ensures.tells c.loop-told.told (side c.args.teller.extreme r.e.val).choices m.tells)),
      λ r z. record { a = (firsts_of c.firsts_from-firsts.result); from = c.firsts_from-firsts.ensures.1; holding = c.again.ensures (cache c.args.teller.cache) r.fitting.p r.fitting.reads },
    )

pub returns : goal.returns
returns c =
    record {
      told = λ r. written_all c.loop-told.out (side c.args.teller.extreme r.e.val).choices c.loop-told-test.false (c.loop-told.auto.out ∙ c.tell-told.auto.out ∙ r.long) (c.loop-told.invariant.1 (record { fitting = r.fitting; e = r.e; at = r.at; long = c.tell-told.auto.out ∙ r.long; a = r.a; from = r.from; holding = r.holding }));
      still = λ r z. c.loop-told.invariant.2 (record { fitting = r.fitting; e = r.e; at = r.at; long = c.tell-told.auto.out ∙ r.long; a = r.a; from = r.from; holding = r.holding }) z;
    }
