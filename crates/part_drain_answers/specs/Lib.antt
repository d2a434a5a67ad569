pub mod DrainReply
