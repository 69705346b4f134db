mod Posts
mod Behind
