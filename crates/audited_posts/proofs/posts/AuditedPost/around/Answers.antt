use Rattle.audited_posts.proofs.posts.AuditedPost.around.Goals as goal

pub returns : goal.returns
returns g c site plan k earlier e behind steps after h starting is =
    let left = c.is_left.ensures plan after e behind earlier h.stream_are is.ends_is in
    record {
      starting_is = starting;
      starts_is = c.starts.ensures plan after h.stream_are;
      begun_is = is.begun_is;
      ends_is = is.ends_is;
      last_is = is.last_is;
      alone_is = is.alone_is;
      writes_is = is.writes_is;
      above_is = is.above_is;
      left_is = (λ found. (let l = left.0 found in (l.0, l.1.0, l.1.1)), λ l. left.1 (l.0, (l.1, l.2)));
    }
