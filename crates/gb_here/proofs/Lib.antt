mod OnDisk
