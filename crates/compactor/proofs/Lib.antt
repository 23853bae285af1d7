mod Rewrites
