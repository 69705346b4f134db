use Rattle.std.proofs.Common.{◌+◌, List, length, refl, sym, subst}
use Rattle.charge_world.specs.declared.entry.Entry.{Entry}
use Rattle.post_spec.specs.Codecs.{codecs}
use Rattle.station_spec.specs.Sharing.{Post}
use Rattle.station_laws.specs.PostRuns.{ArePostsOf}
use Rattle.station_laws.proofs.PostRuns.{post_at}
use Rattle.spelled_watts.proofs.Fronts.{front_run}
use Rattle.station_spec.specs.Runs.{IsRun}
use Rattle.site_laws.proofs.Fronts.{reads_off}
use Rattle.site_laws.proofs.law_of_sites.Goals as goal

pub returns : goal.returns
returns g c plan past r =
    let rb = g.met.C.LawfulCodec.reads_back in
    let det = g.met.C.LawfulCodec.determined in
    let judges = g.met.C.LawfulCodec.judges in
    let cs = codecs g.C.Coded.negotiates g.C.Coded.reads g.C.Coded.encodes in
    record {
      blocks = r.blocks;
      posts = r.posts;
      run = r.run;
      in_blocks = (c.runs_are_blocks.ensures.cut plan r.blocks r.posts).to_blocks r.run;
      closed = r.closes;
      within = record {
        tells = λ newer front is.
            let f = front_run cs plan newer front r.posts (subst (λ (es : List Entry). IsRun cs plan es r.posts) is r.run) in
            record { posts = f.0; run = f.1; within = λ told run. c.told_within_limit.ensures plan front told run };
        spells = c.spelled_within_limit.ensures.fronts plan past r.blocks r.posts rb g.met.C.Codec.negotiates_first r.run r.closes;
      };
      each = λ before post behind are.
          let held = c.ends_as_mandated.ensures plan past r.blocks r.posts before post behind rb r.run r.closes are in
          let ended = c.sessions_end_by_causes.ensures plan r.blocks r.posts before post behind det r.run are in
          let opened = c.every_cause_opens.ensures plan r.blocks r.posts before post behind rb det judges r.run are in
          let own = post_at cs r.blocks (length before + 1) 1 before post behind refl (subst (λ (posts : List Post). ArePostsOf cs r.blocks 1 posts) are (c.runs_of_posts.ensures plan r.blocks r.posts r.run)) in
          record {
            seen_is = own.seen_is;
            closes = c.closes_as_mandated.ensures plan r.blocks r.posts before post behind rb r.run are;
            holds = held.0;
            held = held.1;
            opens_again = (c.opens_again.ensures plan r.blocks r.posts before post behind r.run are).0;
            ends_open = c.ends_open.ensures plan past r.blocks r.posts before post behind r.run r.closes are;
            replies = c.no_failed_reply_while_live.ensures plan r.blocks r.posts before post behind rb r.run are;
            causes = (c.opens_at_causes.ensures plan r.blocks r.posts before post behind rb det r.run are).0;
            stands = opened.0;
            stood = opened.1;
            caused = c.opens_for_reasons.ensures plan r.blocks r.posts before post behind rb det judges r.run are;
            ends = ended.0;
            ended = ended.1;
            applied = c.applied_causes_are_causes.ensures plan r.blocks r.posts before post behind r.run are;
            applied_words = c.applied_words_are_causes.ensures plan r.blocks r.posts before post behind rb det judges r.run are;
            opens_first = c.opens_at_first_causes.ensures plan r.blocks r.posts before post behind det r.run are;
            reasons = c.opens_for_a_reason.ensures plan r.blocks r.posts before post behind det r.run are;
            silent = c.sends_in_sessions.ensures plan r.blocks r.posts before post behind r.run are;
            reads_off = reads_off cs post.plan post.steps c.agendas_are_read.ensures c.streams_are_read.ensures own.run;
            served = c.serves_conforming_sessions.ensures.runs plan r.blocks r.posts before post behind rb r.run are;
          };
      whole = λ uncut before post behind are.
          record {
            served = λ conforms. (c.serves_conforming_sessions.ensures.whole plan past before post behind rb uncut are conforms).0;
            up_to_date = λ conforms. (c.serves_conforming_sessions.ensures.whole plan past before post behind rb uncut are conforms).1;
            isolated = λ site others run before' alike behind' are' n alike_is.
                sym (c.posts_are_isolated.ensures plan site past others uncut run _ before before' post alike behind behind' det are are' refl n alike_is);
          };
    }
